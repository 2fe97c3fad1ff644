-- What an end says is one message at most, and short.
use Rattle.std.specs.Prelude.{if◌then◌else◌, nat_lt, ◌&&◌, ◌||◌, Bool, true, false, codes}
use Rattle.std.proofs.Common.{◌≡◌, ℕ, ◌+◌, ◌≤◌, List, [], ◌∷◌, length, drop, refl, arith, Option, Some, None}
use Rattle.std.proofs.lemmas.Bool.{or_parts}
use Rattle.std.specs.List.{list_any}
use Rattle.wire_base.specs.Tree.{Tree, trees_of}
use Rattle.wire_base.specs.Values.{nesting, holds_bytes, items_hold_bytes}
use Rattle.wire_base.specs.declared.refusal.Refusal.{Refusal}
use Rattle.wire_base.specs.declared.refusal.Refusal.TheVariants as refusal
use Rattle.wire_base.specs.declared.state.Cause.{Cause}
use Rattle.wire_base.specs.declared.text.Id.{Id}
use Rattle.wire_base.specs.Options.{or_else}
use Rattle.rpc_items.specs.declared.calls.Answer.TheVariants as answer
use Rattle.rpc_items.specs.declared.messages.Message.{Message}
use Rattle.rpc_items.specs.declared.messages.Message.TheVariants.{Request}
use Rattle.rpc_items.specs.declared.methods.Meaning.{Meaning}
use Rattle.rpc_items.specs.declared.methods.Meaning.TheVariants.{Turns, Calls}
use Rattle.rpc_items.specs.Automatic.{automatic, fault, nothing_there, page_by, turned}
use Rattle.rpc_items.specs.Bodies.{Encoder, most_body, most_nested, most_page, body_refusal, first_refusal, sequence_refusal}
use Rattle.rpc_items.specs.Fitting.{AreWritable}
use Rattle.rpc_items.specs.Items as rpc
use Rattle.rpc_items.specs.Meanings.{meaning}
use Rattle.rpc_items.specs.OwnHandles.{own_live}
use Rattle.rpc_items.specs.Pages.{page_values}
use Rattle.rpc_items.specs.Produced.{Produced, produced_at}
use Rattle.rpc_items.specs.Producing.{page_count, sequence_named}
use Rattle.rpc_items.specs.Refusals.{call_refusal, state_refusal, unless_ended}
use Rattle.rpc_items.specs.Saying.{said, response}
use Rattle.rpc_items.specs.Writing.{message_value}
use Rattle.endpoint_items.proofs.Texts.{AreShort}

-- messages that aren't refused are short

third_none : (a b c : Bool) (x y z : Refusal) → (if a then Some x else if b then Some y else if c then Some z else None) ≡ None → c ≡ false
third_none true b c x y z e = absurd (cc e)
third_none false true c x y z e = absurd (cc e)
third_none false false true x y z e = absurd (cc e)
third_none false false false x y z e = refl

or_else_parts : (first second : Option Refusal) → or_else first second ≡ None → (first ≡ None) × (second ≡ None)
or_else_parts (Some r) second e = absurd (cc e)
or_else_parts None second e = (refl, e)

body_short : (k : Encoder) (t : Tree) → body_refusal k t ≡ None → nat_lt most_body (k.size t) ≡ false
body_short k t e = third_none (k.json && holds_bytes t) (nat_lt most_nested (nesting t)) (nat_lt most_body (k.size t)) refusal.BytesInJson refusal.TooDeep refusal.BodyTooLong e

pub writable_short : (k : Encoder) (ms : List Message) → AreWritable k ms → AreShort k ms
writable_short k [] w = tt
writable_short k (m ∷ ms) w = (body_short k (message_value m) w.0, writable_short k ms w.1)

pub first_writable : (k : Encoder) (ms : List Message) → first_refusal k ms ≡ None → AreWritable k ms
first_writable k [] e = tt
first_writable k (m ∷ ms) e =
    let parts = or_else_parts (body_refusal k (message_value m)) (first_refusal k ms) e in
    (parts.0, first_writable k ms parts.1)

pub said_none : (ended : Option Cause) (state said : Option Refusal) → unless_ended ended (or_else state said) ≡ None → said ≡ None
said_none (Some why) state said e = absurd (cc e)
said_none None state said e = (or_else_parts state said e).1

pub call_short : (k : Encoder) (call : rpc.RpcCall) (items : List rpc.RpcItem) → call_refusal k call items ≡ None → AreShort k (said (rpc.Did call) items)
call_short k (rpc.TakeReport n) items e = tt
call_short k (rpc.Forget n) items e = tt
call_short k (rpc.Respond id (answer.Sequence values page first)) items e =
    let r = message_value (response id (answer.Sequence values page first) items) in
    let pages = page_values (length values) page (drop first values) in
    let none = said_none (rpc.ended items) (state_refusal (rpc.Respond id (answer.Sequence values page first)) items) (sequence_refusal k r values pages) e in
    let long = nat_lt most_body (k.size r) || list_any (λ page. nat_lt most_page (k.size page)) pages in
    let deep = nat_lt most_nested (nesting r) || list_any (λ page. nat_lt most_nested (nesting page + 1)) pages in
    let short = third_none (k.json && items_hold_bytes (trees_of values)) deep long refusal.BytesInJson refusal.TooDeep refusal.BodyTooLong none in
    ((or_parts (nat_lt most_body (k.size r)) (list_any (λ page. nat_lt most_page (k.size page)) pages) short).0, tt)
call_short k call items e = writable_short k (said (rpc.Did call) items) (first_writable k (said (rpc.Did call) items) (said_none (rpc.ended items) (state_refusal call items) (first_refusal k (said (rpc.Did call) items)) e))

-- a message is answered by one at most

page_one : (id : Id) (s : Option Produced) (pages : ℕ) → length (page_by id s pages) ≤ 1
page_one id (Some s) pages = omega arith
page_one id None pages = omega arith

turned_one : (id : Id) (token : Option ℕ) (items : List rpc.RpcItem) → length (turned id token items) ≤ 1
turned_one id (Some token) items = page_one id (produced_at token items) (page_count token items)
turned_one id None items = omega arith

automatic_one : (id : Id) (m : Meaning) (items : List rpc.RpcItem) → length (automatic id m items) ≤ 1
automatic_one id (Turns token) items = turned_one id (sequence_named token items) items
automatic_one id (Calls handle method) items = elim (own_live handle items) as (λ b. length (if b then [] else fault id nothing_there (codes "no object") ∷ []) ≤ 1) [ true ↦ omega arith | false ↦ omega arith ]
automatic_one id m items = omega arith

pub answer_one : (place : ℕ) (message : Message) (items : List rpc.RpcItem) → length (said (rpc.Got place message) items) ≤ 1
answer_one place (Request id method params) items = automatic_one id (meaning method params) items
answer_one place message items = omega arith
