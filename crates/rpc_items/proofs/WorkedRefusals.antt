-- Worked values: calls that are refused, each for the first of two faults.
use Rattle.std.specs.Prelude.{ℕ, suc, zero, List, [], ◌∷◌, true, false, codes, Some, None, pos}
use Rattle.std.proofs.Common.{◌≡◌, refl}
use Rattle.wire_base.specs.Tree as tree
use Rattle.wire_base.specs.Tree.{Tree, pairs_of}
use Rattle.wire_base.specs.declared.refusal.Refusal.TheVariants as refusal
use Rattle.wire_base.specs.declared.state.Cause.TheVariants.{InputEnded, PeerCompleted}
use Rattle.wire_base.specs.declared.text.Id.{Id}
use Rattle.wire_base.specs.declared.text.Id.TheVariants.{Number}
use Rattle.rpc_items.specs.declared.calls.Answer.TheVariants as answer
use Rattle.rpc_items.specs.declared.calls.Arg.TheVariants as arg
use Rattle.rpc_items.specs.declared.calls.Arguments.TheVariants as arguments
use Rattle.rpc_items.specs.declared.calls.Expect.TheVariants.{Plain}
use Rattle.rpc_items.specs.declared.calls.Lifetime.TheVariants.{Call, Explicit}
use Rattle.rpc_items.specs.declared.messages.Message.TheVariants.{Request}
use Rattle.rpc_items.specs.declared.messages.Message.TheVariants as message
use Rattle.rpc_items.specs.declared.messages.Params.TheVariants as params
use Rattle.rpc_items.specs.Items.{RpcCall, RpcItem, Did, Got, End, Ask, Tell, Respond, Cancel, Report, TakeReport, Forget}
use Rattle.rpc_items.specs.Bodies.{Encoder}
use Rattle.rpc_items.specs.Refusals.{call_refusal}

abbrev add : List ℕ
add = codes "add"

abbrev first : Id
first = Number (pos 1)

-- encodings in which every value has these bytes

abbrev pack : Encoder
pack = record { json = false; size = λ value. 0 }

abbrev json_of : ℕ → Encoder
json_of bytes = record { json = true; size = λ value. bytes }

abbrev too_big : Encoder
too_big = json_of 16777217

abbrev biggest : Encoder
biggest = json_of 16777216

-- so many arrays in one another, with a value in the innermost
abbrev deep : ℕ → Tree → Tree
deep zero value = value
deep (suc n) value = tree.items (tree.item (deep n value) tree.no_items)

abbrev some_bytes : Tree
some_bytes = tree.bytes (7 ∷ [])

-- what can't be passed as a value, with bytes in it
abbrev reserved : Tree
reserved = tree.pairs (pairs_of ((codes "__jsonrpc_marshaled", some_bytes) ∷ []))

abbrev asks : List ℕ → Tree → RpcCall
asks method value = Ask method (arguments.List (arg.Plain value ∷ [])) Plain

abbrev heard : RpcItem
heard = Got 0 (Request first add params.Absent)

abbrev answers : Tree → RpcCall
answers value = Respond first (answer.Value value)

-- requests

reserved_method : call_refusal too_big (asks (codes "$/add") reserved) [] ≡ Some refusal.ReservedMethod
reserved_method = refl

almost_reserved : call_refusal pack (asks (codes "$add") tree.nil) [] ≡ None
almost_reserved = refl

reserved_value : call_refusal too_big (asks add reserved) [] ≡ Some refusal.ReservedMember
reserved_value = refl

reserved_named : call_refusal too_big (Ask add (arguments.Named ((add, tree.nil) ∷ (add, reserved) ∷ (add, tree.nil) ∷ [])) Plain) [] ≡ Some refusal.ReservedMember
reserved_named = refl

reserved_within : call_refusal pack (asks add (deep 1 reserved)) [] ≡ None
reserved_within = refl

no_handle_before_bytes : call_refusal too_big (Ask add (arguments.List (arg.Plain some_bytes ∷ arg.Handed 5 ∷ [])) Plain) [] ≡ Some refusal.NoHandle
no_handle_before_bytes = refl

bytes_before_depth : call_refusal too_big (asks add (deep 126 some_bytes)) [] ≡ Some refusal.BytesInJson
bytes_before_depth = refl

bytes_in_pack : call_refusal pack (asks add (deep 125 some_bytes)) [] ≡ None
bytes_in_pack = refl

depth_before_length : call_refusal too_big (asks add (deep 126 tree.nil)) [] ≡ Some refusal.TooDeep
depth_before_length = refl

too_long : call_refusal too_big (asks add (deep 125 tree.nil)) [] ≡ Some refusal.BodyTooLong
too_long = refl

longest : call_refusal biggest (asks add (deep 125 tree.nil)) [] ≡ None
longest = refl

after_end : call_refusal too_big (asks (codes "$/add") reserved) (End InputEnded ∷ heard ∷ []) ≡ Some (refusal.Ended InputEnded)
after_end = refl

-- notifications

reserved_notification : call_refusal pack (Tell (codes "$/add") (arguments.List (arg.Progress ∷ []))) [] ≡ Some refusal.ReservedMethod
reserved_notification = refl

progress_told : call_refusal pack (Tell add (arguments.List (arg.Plain reserved ∷ arg.Progress ∷ []))) [] ≡ Some refusal.NeedsRequest
progress_told = refl

object_told : call_refusal pack (Tell add (arguments.List (arg.Object 7 Call ∷ []))) [] ≡ Some refusal.NeedsRequest
object_told = refl

explicit_told : call_refusal pack (Tell add (arguments.List (arg.Object 7 Explicit ∷ []))) [] ≡ None
explicit_told = refl

reserved_told : call_refusal too_big (Tell add (arguments.List (arg.Plain reserved ∷ []))) [] ≡ Some refusal.ReservedMember
reserved_told = refl

bytes_told : call_refusal too_big (Tell add (arguments.List (arg.Plain some_bytes ∷ []))) [] ≡ Some refusal.BytesInJson
bytes_told = refl

-- answers

no_request : call_refusal too_big (answers reserved) [] ≡ Some refusal.NoRequest
no_request = refl

reserved_answer : call_refusal too_big (answers reserved) (heard ∷ []) ≡ Some refusal.ReservedMember
reserved_answer = refl

bytes_answered : call_refusal too_big (answers some_bytes) (heard ∷ []) ≡ Some refusal.BytesInJson
bytes_answered = refl

deep_answer : call_refusal too_big (answers (deep 127 tree.nil)) (heard ∷ []) ≡ Some refusal.TooDeep
deep_answer = refl

deepest_answer : call_refusal biggest (answers (deep 126 tree.nil)) (heard ∷ []) ≡ None
deepest_answer = refl

-- an error's data may be any value
reserved_data : call_refusal pack (Respond first (answer.Fault (pos 7) add (Some reserved))) (heard ∷ []) ≡ None
reserved_data = refl

answered_twice : call_refusal pack (answers tree.nil) (Did (answers tree.nil) ∷ heard ∷ []) ≡ Some refusal.NoRequest
answered_twice = refl

no_page : call_refusal too_big (Respond first (answer.Sequence (some_bytes ∷ []) 0 0)) (heard ∷ []) ≡ Some refusal.BadPage
no_page = refl

-- bytes in a later page, a later page that is too deep, and one that is too long
bytes_later : call_refusal too_big (Respond first (answer.Sequence (tree.nil ∷ some_bytes ∷ []) 1 1)) (heard ∷ []) ≡ Some refusal.BytesInJson
bytes_later = refl

deep_later : call_refusal too_big (Respond first (answer.Sequence (tree.nil ∷ deep 125 tree.nil ∷ []) 1 1)) (heard ∷ []) ≡ Some refusal.TooDeep
deep_later = refl

deepest_later : call_refusal (json_of 16760832) (Respond first (answer.Sequence (tree.nil ∷ deep 124 tree.nil ∷ []) 1 1)) (heard ∷ []) ≡ None
deepest_later = refl

long_later : call_refusal (json_of 16760833) (Respond first (answer.Sequence (tree.nil ∷ tree.nil ∷ []) 1 1)) (heard ∷ []) ≡ Some refusal.BodyTooLong
long_later = refl

all_in_result : call_refusal (json_of 16760833) (Respond first (answer.Sequence (tree.nil ∷ tree.nil ∷ []) 1 2)) (heard ∷ []) ≡ None
all_in_result = refl

-- what is kept of requests

abbrev asking : RpcItem
asking = Did (asks add tree.nil)

abbrev replied : RpcItem
replied = Got 9 (message.Result first tree.nil)

forget_unknown : call_refusal pack (Forget 1) (asking ∷ []) ≡ Some refusal.NoRequest
forget_unknown = refl

forget_known : call_refusal pack (Forget 1) (replied ∷ asking ∷ []) ≡ None
forget_known = refl

forget_lost : call_refusal pack (Forget 1) (End PeerCompleted ∷ asking ∷ []) ≡ None
forget_lost = refl

forget_twice : call_refusal pack (Forget 1) (Did (Forget 1) ∷ replied ∷ asking ∷ []) ≡ Some refusal.NoRequest
forget_twice = refl

no_token : call_refusal pack (TakeReport 1) (End PeerCompleted ∷ asking ∷ []) ≡ Some refusal.NoToken
no_token = refl

no_report_of_forgotten : call_refusal pack (TakeReport 1) (Did (Forget 1) ∷ replied ∷ asking ∷ []) ≡ Some refusal.NoRequest
no_report_of_forgotten = refl

report_unheard : call_refusal too_big (Report first first some_bytes) [] ≡ Some refusal.NoRequest
report_unheard = refl

report_bytes : call_refusal too_big (Report first first some_bytes) (heard ∷ []) ≡ Some refusal.BytesInJson
report_bytes = refl

cancel_answered : call_refusal pack (Cancel 1) (replied ∷ Did (Cancel 1) ∷ asking ∷ []) ≡ Some refusal.NoRequest
cancel_answered = refl

cancel_twice : call_refusal pack (Cancel 1) (Did (Cancel 1) ∷ asking ∷ []) ≡ Some refusal.AlreadyCancelled
cancel_twice = refl

cancel_other : call_refusal pack (Cancel 2) (Did (Cancel 1) ∷ asking ∷ asking ∷ []) ≡ None
cancel_other = refl
