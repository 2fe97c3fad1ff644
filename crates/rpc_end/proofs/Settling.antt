-- What a response is to an end: the first to its request, or a stray one.
use Rattle.std.specs.Prelude.{ℕ, List, Bool, true, false, is_none, is_some, if◌then◌else◌, Option, Some, None}
use Rattle.std.proofs.Common.{◌≡◌, refl, sym, ◌∙◌, ap, subst}
use Rattle.wire_base.specs.declared.text.Id.{Id}
use Rattle.rpc_items.specs.declared.calls.Outcome.{Outcome}
use Rattle.rpc_items.specs.Drawn.{Asked, asked_at, is_drawn}
use Rattle.rpc_items.specs.Ids.{numbered_id, same_id}
use Rattle.rpc_items.specs.Items.{RpcItem, is_running}
use Rattle.rpc_items.specs.Outcomes.{answer_to, is_unanswered, request_named}
use Rattle.rpc_items.proofs.Settling.{named_parts}
use Rattle.rpc_items.proofs.SameIds.{same_id_refl}
use Rattle.rpc_items.proofs.Undrawn.{drawn_some}
use Rattle.call_table.specs.declared.answers.Settled.{Settled}
use Rattle.call_table.specs.declared.answers.Settled.TheVariants.{First, Stray}
use Rattle.call_table.specs.Stands.{TableStands, asked_of, settling_by}
use Rattle.call_table.specs.Table.{TableValue, settled_in}
use Rattle.call_table.proofs.Reading.{settles_as, unanswered_drawn}

-- a request that waits was asked

unasked : (n : ℕ) (items : List RpcItem) → asked_at n items ≡ None → is_unanswered n items ≡ true → ⊥
unasked n items none u = cc (sym (unanswered_drawn (is_running items) (is_drawn n items) (is_none (answer_to n items)) u) ∙ (drawn_some n items ∙ ap (λ (a : Option Asked). is_some a) none))

-- a response with the id of a request answers it
pub answers_it : (id : Id) (n : ℕ) (o : Outcome) → id ≡ numbered_id n → (if same_id id (numbered_id n) then Some o else None) ≡ Some o
answers_it id n o is = ap (λ (b : Bool). if b then Some o else None) (ap (λ (i : Id). same_id i (numbered_id n)) is ∙ same_id_refl (numbered_id n))

module _ (table : TableValue) (items : List RpcItem) (s : TableStands false table items) (id : Id) (P : Settled → Type 0)
    (first : (n : ℕ) (asked : Asked) → request_named id items ≡ Some n → asked_at n items ≡ Some asked → P (First n asked.expect))
    (stray : request_named id items ≡ None → P Stray) where
  by_asked : (n : ℕ) (asked : Option Asked) → request_named id items ≡ Some n → asked_at n items ≡ asked → P (settling_by (Some n) asked)
  by_asked n (Some asked) named e = first n asked named e
  by_asked n None named e = absurd (unasked n items e (named_parts id items n named).0)

  by_named : (n : Option ℕ) → request_named id items ≡ n → P (settling_by n (asked_of n items))
  by_named (Some n) e = by_asked n (asked_at n items) e refl
  by_named None e = stray e

  -- what holds of the first response to a request and of a stray one, holds of each
  pub by_response : P (settled_in id table)
  by_response = subst P (sym (settles_as table items id s)) (by_named (request_named id items) refl)
