-- Worked values: what steps answer, first calls of the multiplexing ends, then those in which A asks over two attached connections and B replies.
use Rattle.std.specs.Prelude.{List, [], ◌∷◌, ◌++◌, take, true, false, pos, Some, None}
use Rattle.std.specs.Str.{is_utf8, chars}
use Rattle.std.proofs.Common.{◌≡◌, refl}
use lib.Utf8.{encode}
use Rattle.wire_base.specs.declared.frame.Version.TheVariants as version
use Rattle.wire_base.specs.declared.reason.Reason.TheVariants as reason
use Rattle.wire_base.specs.declared.refusal.Refusal.TheVariants as refusal
use Rattle.wire_base.specs.declared.state.Cause.TheVariants as cause
use Rattle.wire_base.specs.declared.text.Id.TheVariants.{Number}
use Rattle.wire_base.specs.Tokens.{head_at, token_at, inner_at, field_at, bytes_at}
use Rattle.wire_base.specs.Head.{lettered}
use Rattle.pack_value.specs.Answer as pack
use Rattle.pack_value.specs.Shortest as shortest
use Rattle.pack_value.specs.Reading.{run_at, text_at, cut_head, key_at, repeat, pair_at, behind, value_at, items_at, pairs_at}
use Rattle.message_framing.specs.Front.{front}
use Rattle.message_framing.specs.Wrapped.{head_text}
use Rattle.message_framing.specs.declared.framing.Framing.TheVariants as framing
use Rattle.message_body.specs.declared.encoding.Encoding.TheVariants as encoding
use Rattle.mux_items.specs.declared.call.Call.{Call as MuxCall}
use Rattle.mux_items.specs.declared.call.Call.TheVariants as mux_call
use Rattle.mux_items.specs.declared.channel.ChannelKey.{ChannelKey}
use Rattle.mux_items.specs.declared.channel.MuxEvent.TheVariants as happened
use Rattle.mux_run.specs.Run.{Terms}
use Rattle.mux_items.specs.Applying.{place_at}
use Rattle.mux_run.specs.declared.steps.Side.{Side}
use Rattle.mux_run.specs.declared.steps.Side.TheVariants.{A, B}
use Rattle.rpc_items.specs.declared.calls.Answer.TheVariants as answered
use Rattle.rpc_items.specs.declared.calls.Arg.TheVariants as arg
use Rattle.rpc_items.specs.declared.calls.Arguments.TheVariants as arguments
use Rattle.rpc_items.specs.declared.calls.Expect.TheVariants.{Plain, Sequence}
use Rattle.rpc_items.specs.declared.calls.Outcome.TheVariants.{Replied}
use Rattle.rpc_items.specs.declared.calls.RpcEvent.TheVariants as told
use Rattle.rpc_items.specs.declared.calls.Target.TheVariants.{Root}
use Rattle.rpc_items.specs.declared.messages.Params.TheVariants as params
use Rattle.rpc_items.specs.Ids.{count_value}
use Rattle.rpc_items.specs.Pages.{page_value}
use Rattle.rpc_end.specs.declared.terms.Terms.{Terms as Form}
use Rattle.endpoint_items.specs.declared.call.Call.TheVariants as call
use Rattle.endpoint_items.specs.declared.event.EndEvent.TheVariants as event
use Rattle.endpoint_items.specs.declared.reply.Reply.TheVariants as reply
use Rattle.endpoint_run.specs.Answers.{answer, run}
use Rattle.endpoint_run.specs.Run.{EndWorld, stopped}
use Rattle.endpoint_run.specs.declared.answers.DuoAnswer.TheVariants as duo
use Rattle.endpoint_run.specs.declared.answers.SideEvent.TheVariants.{Happened, Ended}
use Rattle.endpoint_run.specs.declared.steps.Step.{Step}
use Rattle.endpoint_run.specs.declared.steps.Step.TheVariants as step

-- the channel as A names it, and as B does
abbrev at_a : ChannelKey
at_a = record { id = 1; own = true }

abbrev at_b : ChannelKey
at_b = record { id = 1; own = false }

abbrev terms : Terms
terms = record { version = version.Three; nonce_a = []; nonce_b = [] }

-- A offers a channel, B accepts it with a window of 4 bytes, and of the 5 that A writes B reads 4 and then 1

abbrev calls : Side → MuxCall → Step
calls side c = step.Call side (call.Mux c)

abbrev offer : Step
offer = calls A (mux_call.Offer (97 ∷ []) 8)

offer_answers : answer terms offer (run terms []) ≡ duo.Replied (reply.Made at_a) []
offer_answers = refl

-- 4 bytes for the array, the code, the id and the origin, 2 for the head of the payload, and 4 for the payload
offer_comes : answer terms (step.Deliver B 1000) (run terms (offer ∷ [])) ≡ duo.Delivered 10 (Happened (event.Mux (happened.Offered at_b)) ∷ [])
offer_comes = refl

abbrev accepted : List Step
accepted = offer ∷ step.Deliver B 1000 ∷ calls B (mux_call.Accept at_b 4) ∷ step.Deliver A 1000 ∷ []

abbrev write : Step
write = calls A (mux_call.Write at_a (104 ∷ 101 ∷ 108 ∷ 108 ∷ 111 ∷ []))

-- a part of a frame is no event
part_comes : answer terms (step.Deliver B 9) (run terms (accepted ++ write ∷ [])) ≡ duo.Delivered 9 []
part_comes = refl

abbrev unread : List Step
unread = accepted ++ write ∷ step.Deliver B 1000 ∷ []

abbrev read : Step
read = calls B (mux_call.Read at_b 100)

reads_four : answer terms read (run terms unread) ≡ duo.Replied (reply.Bytes (104 ∷ 101 ∷ 108 ∷ 108 ∷ [])) []
reads_four = refl

-- the acknowledgement let the fifth byte go
reads_one : answer terms read (run terms (unread ++ read ∷ step.Deliver A 1000 ∷ step.Deliver B 1000 ∷ [])) ≡ duo.Replied (reply.Bytes (111 ∷ [])) []
reads_one = refl

other_channel : answer terms (calls B (mux_call.Read at_a 100)) (run terms unread) ≡ duo.Replied (reply.Refused refusal.NoChannel) []
other_channel = refl

-- A terminates while content of B is on its way

abbrev terminate : Step
terminate = calls A (mux_call.Terminate at_a)

terminate_answers : answer terms terminate (run terms accepted) ≡ duo.Replied reply.Done []
terminate_answers = refl

abbrev write_back : Step
write_back = calls B (mux_call.Write at_b (0x78 ∷ []))

abbrev crossed : List Step
crossed = accepted ++ terminate ∷ write_back ∷ step.Deliver B 1000 ∷ []

-- the content is ignored, then the channel is closed
closed_at_a : answer terms (step.Deliver A 1000) (run terms crossed) ≡ duo.Delivered 11 (Happened (event.Mux (happened.Ignored at_a)) ∷ Happened (event.Mux (happened.Closed at_a)) ∷ [])
closed_at_a = refl

nothing_is_kept : answer terms write (run terms (crossed ++ step.Deliver A 1000 ∷ [])) ≡ duo.Replied (reply.Refused refusal.NoChannel) []
nothing_is_kept = refl

-- A's stream ends: it then answers no call but reads, and no delivery

abbrev ended : List Step
ended = accepted ++ step.End A ∷ []

end_answers : answer terms (step.End A) (run terms accepted) ≡ duo.Ended
end_answers = refl

nothing_is_delivered : answer terms (step.Deliver A 1000) (run terms (ended ++ write_back ∷ [])) ≡ duo.Delivered 0 []
nothing_is_delivered = refl

write_is_refused : answer terms write (run terms ended) ≡ duo.Replied (reply.Refused (refusal.Ended cause.InputEnded)) []
write_is_refused = refl

read_is_answered : answer terms (calls A (mux_call.Read at_a 5)) (run terms ended) ≡ duo.Replied (reply.Bytes []) []
read_is_answered = refl

-- B is spent with four unread bytes, and an offer on its way: it answers reads alone and gets nothing more

abbrev spent : EndWorld
spent = record { a = (run terms (unread ++ offer ∷ [])).a; b = stopped version.Three cause.Spent (run terms unread).b }

spent_is_refused : answer terms write_back spent ≡ duo.Replied (reply.Refused (refusal.Ended cause.Spent)) []
spent_is_refused = refl

spent_is_read : answer terms read spent ≡ duo.Replied (reply.Bytes (104 ∷ 101 ∷ 108 ∷ 108 ∷ [])) []
spent_is_read = refl

spent_gets_nothing : answer terms (step.Deliver B 1000) spent ≡ duo.Delivered 0 []
spent_gets_nothing = refl

-- A gets its own nonce, and has ended

abbrev same_nonces : Terms
same_nonces = record { version = version.Two; nonce_a = []; nonce_b = [] }

end_is_told : answer same_nonces (step.Deliver A 1000) (run same_nonces []) ≡ duo.Delivered 6 (Ended (cause.Refused (place_at 6) reason.SameNonce) ∷ [])
end_is_told = refl

-- a channel with a connection at both sides

abbrev form : Form
form = record { framing = framing.Length; encoding = encoding.Pack }

abbrev attached : List Step
attached =
    calls A (mux_call.Offer (97 ∷ []) 100)
    ∷ step.Deliver B 1000
    ∷ calls B (mux_call.Accept at_b 100)
    ∷ step.Call B (call.Attach at_b form)
    ∷ step.Deliver A 1000
    ∷ step.Call A (call.Attach at_a form)
    ∷ []

-- A has no connection and writes a length of 0, which B's refuses
refused : answer terms (step.Deliver B 1000) (run terms (take 5 attached ++ calls A (mux_call.Write at_a (0 ∷ 0 ∷ 0 ∷ 0 ∷ [])) ∷ []))
    ≡ duo.Delivered 10 (Happened (event.Mux (happened.Content at_b 4)) ∷ Happened (event.RpcEnded at_b (cause.Refused (place_at 0) reason.BadLength)) ∷ [])
unfolding front
refused = refl

-- A asks for m, by a request with a number
abbrev ask : Step
ask = step.Call A (call.Request at_a (109 ∷ []) (arguments.List []) Plain)

number : answer terms ask (run terms attached) ≡ duo.Replied (reply.Number 1) []
unfolding head_text
number = refl

abbrev asked : List Step
asked = attached ++ ask ∷ []

-- what became of it is a question
abbrev look : Step
look = step.Call A (call.Outcome at_a 1)

not_yet : answer terms look (run terms asked) ≡ duo.Replied reply.NotYet []
unfolding head_text
not_yet = refl

no_request : answer terms look (run terms attached) ≡ duo.Replied (reply.Refused refusal.NoRequest) []
no_request = refl

not_attached : answer terms look (run terms []) ≡ duo.Replied (reply.Refused refusal.NotAttached) []
not_attached = refl

-- at B the content comes, and then the request
came : answer terms (step.Deliver B 1000) (run terms asked)
    ≡ duo.Delivered 44 (Happened (event.Mux (happened.Content at_b 38)) ∷ Happened (event.Rpc at_b (told.Asked (Number (pos 1)) Root (109 ∷ []) (params.List []))) ∷ [])
unfolding front head_text pack.front head_at token_at inner_at field_at bytes_at lettered run_at text_at cut_head key_at repeat pair_at behind value_at items_at pairs_at is_utf8 chars encode
came = refl

abbrev responded : List Step
responded = asked ++ step.Deliver B 1000 ∷ step.Call B (call.Respond at_b (Number (pos 1)) (answered.Value (count_value 5))) ∷ []

-- the reply is known at A, also after the end of the stream
known : answer terms look (run terms (responded ++ step.Deliver A 1000 ∷ step.End A ∷ [])) ≡ duo.Replied (reply.Known (Replied (count_value 5))) []
unfolding front head_text pack.front head_at token_at inner_at field_at bytes_at lettered run_at text_at cut_head key_at repeat pair_at behind value_at items_at pairs_at is_utf8 chars encode
known = refl

-- and is forgotten once
forgotten : answer terms look (run terms (responded ++ step.Deliver A 1000 ∷ step.Call A (call.Forget at_a 1) ∷ [])) ≡ duo.Replied (reply.Refused refusal.NoRequest) []
unfolding front head_text pack.front head_at token_at inner_at field_at bytes_at lettered run_at text_at cut_head key_at repeat pair_at behind value_at items_at pairs_at is_utf8 chars encode
forgotten = refl

-- a request without an argument for progress has no reports
abbrev take_report : Step
take_report = step.Call A (call.TakeReport at_a 1)

no_token : answer terms take_report (run terms asked) ≡ duo.Replied (reply.Refused refusal.NoToken) []
unfolding head_text
no_token = refl

-- A asks with one, and B reports on its request
abbrev reported : List Step
reported = attached
    ++ step.Call A (call.Request at_a (109 ∷ []) (arguments.List (arg.Progress ∷ [])) Plain)
    ∷ step.Deliver B 1000
    ∷ step.Call B (call.Report at_b (Number (pos 1)) (Number (pos 1)) (count_value 50))
    ∷ []

-- the report can be taken at A, once
taken : answer terms take_report (run terms (reported ++ step.Deliver A 1000 ∷ [])) ≡ duo.Replied (reply.Report (Some (count_value 50))) []
unfolding front head_text pack.front head_at token_at inner_at field_at bytes_at lettered run_at text_at cut_head key_at repeat pair_at behind value_at items_at pairs_at is_utf8 chars encode
taken = refl

none_left : answer terms take_report (run terms (reported ++ step.Deliver A 1000 ∷ take_report ∷ [])) ≡ duo.Replied (reply.Report None) []
unfolding front head_text pack.front head_at token_at inner_at field_at bytes_at lettered run_at text_at cut_head key_at repeat pair_at behind value_at items_at pairs_at is_utf8 chars encode
none_left = refl

-- A cancels its request, once
abbrev cancel : Step
cancel = step.Call A (call.Cancel at_a 1)

cancels : answer terms cancel (run terms asked) ≡ duo.Replied reply.Done []
unfolding head_text
cancels = refl

cancelled : answer terms cancel (run terms (asked ++ cancel ∷ [])) ≡ duo.Replied (reply.Refused refusal.AlreadyCancelled) []
unfolding head_text
cancelled = refl

-- A asks for a sequence, and B answers with three values in pages of two, of which one goes with the result
abbrev in_pages : List Step
in_pages = attached
    ++ step.Call A (call.Request at_a (109 ∷ []) (arguments.List []) Sequence)
    ∷ step.Deliver B 1000
    ∷ step.Call B (call.Respond at_b (Number (pos 1)) (answered.Sequence (count_value 5 ∷ count_value 6 ∷ count_value 7 ∷ []) 2 1))
    ∷ step.Deliver A 1000
    ∷ []

-- a page is asked for by a request of its own, one at a time
abbrev next : Step
next = step.Call A (call.Next at_a 1)

turns : answer terms next (run terms in_pages) ≡ duo.Replied (reply.Number 2) []
unfolding front head_text pack.front head_at token_at inner_at field_at bytes_at lettered run_at text_at cut_head key_at repeat pair_at behind value_at items_at pairs_at is_utf8 chars encode shortest.flag_byte
turns = refl

outstanding : answer terms next (run terms (in_pages ++ next ∷ [])) ≡ duo.Replied (reply.Refused refusal.NextOutstanding) []
unfolding front head_text pack.front head_at token_at inner_at field_at bytes_at lettered run_at text_at cut_head key_at repeat pair_at behind value_at items_at pairs_at is_utf8 chars encode shortest.flag_byte
outstanding = refl

page : answer terms (step.Call A (call.Outcome at_a 2)) (run terms (in_pages ++ next ∷ step.Deliver B 1000 ∷ step.Deliver A 1000 ∷ []))
    ≡ duo.Replied (reply.Known (Replied (page_value true (count_value 6 ∷ count_value 7 ∷ [])))) []
unfolding front head_text pack.front head_at token_at inner_at field_at bytes_at lettered run_at text_at cut_head key_at repeat pair_at behind value_at items_at pairs_at is_utf8 chars encode shortest.flag_byte
page = refl

-- A gives the sequence up, once
abbrev abort : Step
abort = step.Call A (call.Abort at_a 1)

leaves : answer terms abort (run terms in_pages) ≡ duo.Replied reply.Done []
unfolding front head_text pack.front head_at token_at inner_at field_at bytes_at lettered run_at text_at cut_head key_at repeat pair_at behind value_at items_at pairs_at is_utf8 chars encode shortest.flag_byte
leaves = refl

left : answer terms next (run terms (in_pages ++ abort ∷ [])) ≡ duo.Replied (reply.Refused refusal.NoEnumerable) []
unfolding front head_text pack.front head_at token_at inner_at field_at bytes_at lettered run_at text_at cut_head key_at repeat pair_at behind value_at items_at pairs_at is_utf8 chars encode shortest.flag_byte
left = refl
