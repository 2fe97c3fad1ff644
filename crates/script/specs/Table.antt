-- The steps of a script: the step word of each, the forms of the words behind it, what the rest of its line is, and what they mean.
use Rattle.std.specs.Prelude.{ℕ, pos, List, [], ◌∷◌, replicate, codes, unwrap_or, None}
use Rattle.wire_base.specs.Tree.{Tree, nil}
use Rattle.wire_base.specs.declared.text.Id.{Id}
use Rattle.wire_base.specs.declared.text.Id.TheVariants as ids
use Rattle.mux_items.specs.declared.call.Call.{Call as MuxCall}
use Rattle.mux_items.specs.declared.call.Call.TheVariants as mux_call
use Rattle.mux_run.specs.declared.steps.Side.{Side}
use Rattle.rpc_items.specs.declared.calls.Answer.TheVariants as answer
use Rattle.rpc_items.specs.declared.calls.Arguments.{Arguments}
use Rattle.rpc_items.specs.declared.calls.Arguments.TheVariants.{Absent}
use Rattle.endpoint_items.specs.declared.call.Call.{Call}
use Rattle.endpoint_items.specs.declared.call.Call.TheVariants as call
use Rattle.endpoint_run.specs.declared.steps.Step.{Step}
use Rattle.endpoint_run.specs.declared.steps.Step.TheVariants as step
use Rattle.text_words.specs.Forms.{Form, side, channel, name, number, limited, bytes, byte, count, framing, encoding, expect, owner, method, signed, json_id, FormValues}
use Rattle.text_words.specs.Json.{json_in, json_id_in, string_in, array_in, arguments_in}
use Rattle.text_words.specs.Written.{key_at, signed_value}
use Rattle.script.specs.declared.step_word.StepWord.{StepWord}
use Rattle.script.specs.declared.step_word.StepWord.TheVariants as word
use Rattle.script.specs.declared.line_step.LineStep.{LineStep}
use Rattle.script.specs.Limits.{most_fill}
use Rattle.script.specs.Rests.{Rest, nothing, json, arguments, string, array, RestValue}

-- how a step word is written
abbrev pub word_text : StepWord → List ℕ
word_text word.Offer = codes "offer"
word_text word.Accept = codes "accept"
word_text word.Write = codes "write"
word_text word.Fill = codes "fill"
word_text word.Read = codes "read"
word_text word.Complete = codes "complete"
word_text word.Terminate = codes "terminate"
word_text word.Attach = codes "attach"
word_text word.Request = codes "request"
word_text word.Notify = codes "notify"
word_text word.Result = codes "result"
word_text word.Object = codes "object"
word_text word.Sequence = codes "sequence"
word_text word.Fault = codes "fault"
word_text word.Cancel = codes "cancel"
word_text word.Report = codes "report"
word_text word.Reports = codes "reports"
word_text word.Next = codes "next"
word_text word.Abort = codes "abort"
word_text word.Invoke = codes "invoke"
word_text word.Release = codes "release"
word_text word.Outcome = codes "outcome"
word_text word.Forget = codes "forget"
word_text word.Deliver = codes "deliver"
word_text word.End = codes "end"

-- the forms of the words behind it
abbrev pub forms_of : StepWord → List Form
forms_of word.Offer = side ∷ name ∷ number ∷ []
forms_of word.Accept = side ∷ channel ∷ number ∷ []
forms_of word.Write = side ∷ channel ∷ bytes ∷ []
forms_of word.Fill = side ∷ channel ∷ limited most_fill ∷ byte ∷ []
forms_of word.Read = side ∷ channel ∷ number ∷ []
forms_of word.Complete = side ∷ channel ∷ []
forms_of word.Terminate = side ∷ channel ∷ []
forms_of word.Attach = side ∷ channel ∷ framing ∷ encoding ∷ []
forms_of word.Request = side ∷ channel ∷ method ∷ expect ∷ []
forms_of word.Notify = side ∷ channel ∷ method ∷ []
forms_of word.Result = side ∷ channel ∷ json_id ∷ []
forms_of word.Object = side ∷ channel ∷ json_id ∷ number ∷ []
forms_of word.Sequence = side ∷ channel ∷ json_id ∷ number ∷ number ∷ []
forms_of word.Fault = side ∷ channel ∷ json_id ∷ signed ∷ []
forms_of word.Cancel = side ∷ channel ∷ number ∷ []
forms_of word.Report = side ∷ channel ∷ json_id ∷ json_id ∷ []
forms_of word.Reports = side ∷ channel ∷ number ∷ []
forms_of word.Next = side ∷ channel ∷ number ∷ []
forms_of word.Abort = side ∷ channel ∷ number ∷ []
forms_of word.Invoke = side ∷ channel ∷ number ∷ method ∷ expect ∷ []
forms_of word.Release = side ∷ channel ∷ owner ∷ number ∷ []
forms_of word.Outcome = side ∷ channel ∷ number ∷ []
forms_of word.Forget = side ∷ channel ∷ number ∷ []
forms_of word.Deliver = side ∷ count ∷ []
forms_of word.End = side ∷ []

-- what stands behind these words
abbrev pub rest_of : StepWord → Rest
rest_of word.Offer = nothing
rest_of word.Accept = nothing
rest_of word.Write = nothing
rest_of word.Fill = nothing
rest_of word.Read = nothing
rest_of word.Complete = nothing
rest_of word.Terminate = nothing
rest_of word.Attach = nothing
rest_of word.Request = arguments
rest_of word.Notify = arguments
rest_of word.Result = json
rest_of word.Object = nothing
rest_of word.Sequence = array
rest_of word.Fault = string
rest_of word.Cancel = nothing
rest_of word.Report = json
rest_of word.Reports = nothing
rest_of word.Next = nothing
rest_of word.Abort = nothing
rest_of word.Invoke = arguments
rest_of word.Release = nothing
rest_of word.Outcome = nothing
rest_of word.Forget = nothing
rest_of word.Deliver = nothing
rest_of word.End = nothing

-- what texts stand for that are of their forms
abbrev pub json_said : List ℕ → Tree
json_said text = unwrap_or (json_in text) nil

abbrev pub id_said : List ℕ → Id
id_said text = unwrap_or (json_id_in text) (ids.Number (pos 0))

abbrev pub string_said : List ℕ → List ℕ
string_said text = unwrap_or (string_in text) []

abbrev pub array_said : List ℕ → List Tree
array_said text = unwrap_or (array_in text) []

abbrev pub arguments_said : List ℕ → Arguments
arguments_said text = unwrap_or (arguments_in text) Absent

-- a line that fills nothing
abbrev pub plain : Step → LineStep
plain s = record { step = s; filled = 0 }

-- a line that is a call
abbrev pub calls : Side → Call → LineStep
calls s c = plain (step.Call s c)

-- a line that is a call of the multiplexing end
abbrev pub mux_calls : Side → MuxCall → LineStep
mux_calls s c = calls s (call.Mux c)

-- what the words and the rest of the line mean: a step, and how many bytes it fills in
abbrev pub meaning : (w : StepWord) → FormValues (forms_of w) → RestValue (rest_of w) → LineStep
meaning word.Offer (s, (n, (window, end))) rest = mux_calls s (mux_call.Offer n window)
meaning word.Accept (s, (c, (window, end))) rest = mux_calls s (mux_call.Accept (key_at s c) window)
meaning word.Write (s, (c, (bs, end))) rest = mux_calls s (mux_call.Write (key_at s c) bs)
meaning word.Fill (s, (c, (n, (b, end)))) rest = record { step = step.Call s (call.Mux (mux_call.Write (key_at s c) (replicate n b))); filled = n }
meaning word.Read (s, (c, (max, end))) rest = mux_calls s (mux_call.Read (key_at s c) max)
meaning word.Complete (s, (c, end)) rest = mux_calls s (mux_call.Complete (key_at s c))
meaning word.Terminate (s, (c, end)) rest = mux_calls s (mux_call.Terminate (key_at s c))
meaning word.Attach (s, (c, (f, (e, end)))) rest = calls s (call.Attach (key_at s c) (record { framing = f; encoding = e }))
meaning word.Request (s, (c, (m, (e, end)))) text = calls s (call.Request (key_at s c) m (arguments_said text) e)
meaning word.Notify (s, (c, (m, end))) text = calls s (call.Notify (key_at s c) m (arguments_said text))
meaning word.Result (s, (c, (id, end))) text = calls s (call.Respond (key_at s c) (id_said id) (answer.Value (json_said text)))
meaning word.Object (s, (c, (id, (n, end)))) rest = calls s (call.Respond (key_at s c) (id_said id) (answer.Object n))
meaning word.Sequence (s, (c, (id, (page, (first, end))))) text = calls s (call.Respond (key_at s c) (id_said id) (answer.Sequence (array_said text) page first))
meaning word.Fault (s, (c, (id, (code, end)))) text = calls s (call.Respond (key_at s c) (id_said id) (answer.Fault (signed_value code) (string_said text) None))
meaning word.Cancel (s, (c, (n, end))) rest = calls s (call.Cancel (key_at s c) n)
meaning word.Report (s, (c, (id, (token, end)))) text = calls s (call.Report (key_at s c) (id_said id) (id_said token) (json_said text))
meaning word.Reports (s, (c, (n, end))) rest = calls s (call.TakeReport (key_at s c) n)
meaning word.Next (s, (c, (n, end))) rest = calls s (call.Next (key_at s c) n)
meaning word.Abort (s, (c, (n, end))) rest = calls s (call.Abort (key_at s c) n)
meaning word.Invoke (s, (c, (h, (m, (e, end))))) text = calls s (call.Invoke (key_at s c) h m (arguments_said text) e)
meaning word.Release (s, (c, (own, (n, end)))) rest = calls s (call.Release (key_at s c) (record { number = n; own = own }))
meaning word.Outcome (s, (c, (n, end))) rest = calls s (call.Outcome (key_at s c) n)
meaning word.Forget (s, (c, (n, end))) rest = calls s (call.Forget (key_at s c) n)
meaning word.Deliver (s, (n, end)) rest = plain (step.Deliver s n)
meaning word.End (s, end) rest = plain (step.End s)

-- all step words
abbrev pub step_words : List StepWord
step_words = word.Offer ∷ word.Accept ∷ word.Write ∷ word.Fill ∷ word.Read ∷ word.Complete ∷ word.Terminate ∷ word.Attach ∷ word.Request
    ∷ word.Notify ∷ word.Result ∷ word.Object ∷ word.Sequence ∷ word.Fault ∷ word.Cancel ∷ word.Report ∷ word.Reports ∷ word.Next ∷ word.Abort
    ∷ word.Invoke ∷ word.Release ∷ word.Outcome ∷ word.Forget ∷ word.Deliver ∷ word.End ∷ []
