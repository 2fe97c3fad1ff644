-- What an end says are messages of the code, and requests of the peer that wait have ids that a value can tell.
use Rattle.std.specs.Prelude.{ℕ, List, [], ◌∷◌, ◌++◌, Bool, true, false, if◌then◌else◌, Option, Some, None, Result, Ok, Err, OnOk}
use Rattle.std.proofs.Common.{◌≡◌, refl, subst}
use Rattle.enumerables.specs.Producer.{page_in}
use Rattle.marshalled_handles.specs.Owner.{object_in}
use Rattle.message_body.specs.AsRead.{AreMessages, IsMessage}
use Rattle.rpc_items.specs.declared.messages.Message.{Message}
use Rattle.rpc_items.specs.declared.messages.Message.TheVariants.{Request, Notification}
use Rattle.rpc_items.specs.declared.messages.Message.TheVariants as message
use Rattle.rpc_items.specs.declared.methods.Meaning.{Meaning}
use Rattle.rpc_items.specs.declared.methods.Meaning.TheVariants.{Serves, Turns, Calls, Mistakes, Unknown}
use Rattle.rpc_items.specs.Fitting.{IsNamed}
use Rattle.rpc_items.specs.Ids.{same_id}
use Rattle.rpc_items.specs.Items.{RpcCall, Respond, RpcItem, Did, Got}
use Rattle.rpc_items.specs.Meanings.{meaning}
use Rattle.rpc_items.specs.Told.{HasNamedId}
use Rattle.rpc_items.specs.Waiting.{asks, is_waiting}
use Rattle.wire_base.specs.Tree.{Tree}
use Rattle.wire_base.specs.declared.text.Id.{Id}
use Rattle.rpc_items.proofs.SameIds.{same_id_eq}
use Rattle.rpc_end.specs.Heeding.{HasId, answers_by, object_answers, page_answer}
use Rattle.rpc_end.specs.Stands.{RpcValue}

-- messages behind messages
pub both_messages : (older newer : List Message) → AreMessages older → AreMessages newer → AreMessages (older ++ newer)
both_messages [] newer h k = k
both_messages (m ∷ older) newer h k = (h.0, both_messages older newer h.1 k)

-- a message that is written is one, if its id is one that a value can tell
pub one_message : {A E : Type 0} (given : Result A E) (m : Message) → HasNamedId m → OnOk given (HasNamedId m → IsMessage m) → OnOk given (AreMessages (m ∷ []))
one_message (Ok x) m named f = (f named, tt)
one_message (Err e) m named f = tt

-- an answer that a request gets by itself has the id that it answers

one_named : (x answer : Message) → HasNamedId x → x ∷ [] ≡ answer ∷ [] → HasNamedId answer
one_named x answer h e = let same : x ≡ answer = cc in subst (λ (m : Message). HasNamedId m) same h

page_named : (id : Id) (page : Option Tree) → IsNamed id → HasNamedId (page_answer id page)
page_named id (Some page) named = named
page_named id None named = named

object_named : (id : Id) (object : Option ℕ) (answer : Message) → IsNamed id → object_answers id object ≡ answer ∷ [] → HasNamedId answer
object_named id (Some object) answer named e = absurd (cc e)
object_named id None answer named e = one_named _ answer named e

pub answer_named : (id : Id) (m : Meaning) (end : RpcValue) (answer : Message) → IsNamed id → answers_by id m end ≡ answer ∷ [] → HasNamedId answer
answer_named id Serves end answer named e = absurd (cc e)
answer_named id (Turns token) end answer named e = one_named _ answer (page_named id (page_in token end.producer) named) e
answer_named id (Calls handle method) end answer named e = object_named id (object_in handle end.owner) answer named e
answer_named id Mistakes end answer named e = one_named _ answer named e
answer_named id Unknown end answer named e = one_named _ answer named e
answer_named id m end answer named e = one_named _ answer named e

-- requests of the peer that wait

answered_leaves : (answered id : Id) (b : Bool) (before : Bool) → (if b then false else before) ≡ true → before ≡ true
answered_leaves answered id true before w = absurd (cc w)
answered_leaves answered id false before w = w

-- after a call no other request waits
pub waits_still : (call : RpcCall) (items : List RpcItem) (id : Id) → is_waiting id (Did call ∷ items) ≡ true → is_waiting id items ≡ true
waits_still (Respond answered given) items id w = answered_leaves answered id (same_id answered id) (is_waiting id items) w
waits_still call items id w = w

one_waits : (got id : Id) (asked before b : Bool) → same_id got id ≡ b → IsNamed got → (before ≡ true → IsNamed id) → (if b then asked else before) ≡ true → IsNamed id
one_waits got id asked before true e named older w = subst (λ (i : Id). IsNamed i) (same_id_eq got id e) named
one_waits got id asked before false e named older w = older w

-- after a message whose id can be answered the ids of those that wait are such
pub named_then : (place : ℕ) (m : Message) (items : List RpcItem) → HasId m → ((id : Id) → is_waiting id items ≡ true → IsNamed id) → (id : Id) → is_waiting id (Got place m ∷ items) ≡ true → IsNamed id
named_then place (Request got method params) items has older id w = one_waits got id (asks (meaning method params) items) (is_waiting id items) (same_id got id) refl has (older id) w
named_then place (Notification method params) items has older id w = older id w
named_then place (message.Result got value) items has older id w = older id w
named_then place (message.Error got code text more) items has older id w = older id w
