-- What is kept of handles tells what the items tell.
use Rattle.std.specs.Prelude.{Bool, true, false, not, ◌&&◌, ◌==◌, nat_lt, nat_le, is_some, option_map, slice_get, if◌then◌else◌, Option}
use Rattle.std.proofs.Common.{◌≡◌, ℕ, ◌+◌, ◌-◌, ◌<◌, inl, inr, le-leb, List, refl, sym, ◌∙◌, ap, Some, None, arith}
use Rattle.std.proofs.lemmas.Bool.{cases_lt, le-ltb, lt-leb, lt-ltb}
use Rattle.wire_base.specs.declared.refusal.Refusal.TheVariants as refusal
use Rattle.wire_base.proofs.Places.{above_zero}
use Rattle.rpc_items.specs.declared.calls.Answer.TheVariants as answer
use Rattle.rpc_items.specs.declared.calls.HandleKey.{HandleKey}
use Rattle.rpc_items.specs.declared.calls.Target.TheVariants as target
use Rattle.rpc_items.specs.Arguments.{most_drawn}
use Rattle.rpc_items.specs.Drawn.{with_number}
use Rattle.rpc_items.specs.Events.{object_target}
use Rattle.rpc_items.specs.Handles.{has_ended, is_live, is_made}
use Rattle.rpc_items.specs.Items.{RpcItem}
use Rattle.rpc_items.specs.Keys.{own_key, peer_key}
use Rattle.rpc_items.specs.Made.{Made, last_handle, made}
use Rattle.rpc_items.specs.OwnHandles.{own_ended, own_live, own_made}
use Rattle.rpc_items.specs.PeerHandles.{Adopted, adopted, peer_ended}
use Rattle.rpc_items.specs.Refusals.{answer_refusal, handle_refusal}
use Rattle.rpc_items.proofs.Numbered.{numbered_at}
use Rattle.marshalled_handles.specs.declared.own_handle.OwnHandle.{OwnHandle}
use Rattle.marshalled_handles.specs.declared.peer_handle.PeerHandle.{PeerHandle}
use Rattle.marshalled_handles.specs.Holder as holder
use Rattle.marshalled_handles.specs.Owner.{end_of, living_object, object_in, room_refusal}
use Rattle.marshalled_handles.specs.Owner as owner
use Rattle.marshalled_handles.specs.Replies.{seen, seen_living, seen_refusal}
use Rattle.marshalled_handles.specs.Stands.{HolderStands, OwnerStands, end_after, held_after, many_refusal, own_after, own_object}

-- by whether a handle has ended

refused_by : (made ended : Bool) → seen_refusal (seen made ended) ≡ (if not made then Some refusal.NoHandle else if ended then Some refusal.Released else None)
refused_by true ended = refl
refused_by false ended = refl

-- why a handle can't be called or released
pub refused_as : (key : HandleKey) (items : List RpcItem) → seen_refusal (end_after key items) ≡ handle_refusal key items
refused_as key items = refused_by (is_made key items) (has_ended key items)

lives_by : (made ended : Bool) → seen_living (seen made ended) ≡ (made && not ended)
lives_by true true = refl
lives_by true false = refl
lives_by false ended = refl

-- whether a handle lives
pub lives_as : (key : HandleKey) (items : List RpcItem) → seen_living (end_after key items) ≡ is_live key items
lives_as key items = lives_by (is_made key items) (has_ended key items)

-- own handles

pub numbered : (number : ℕ) (handles : List OwnHandle) (items : List RpcItem) → OwnerStands handles items → with_number number handles ≡ option_map (own_after number items) (own_made number items)
numbered number handles items s = by (number == 0) refl
  where
    by : (b : Bool) → (number == 0) ≡ b → with_number number handles ≡ option_map (own_after number items) (own_made number items)
    by true e = ap (λ (c : Bool). if c then None else slice_get handles (number - 1)) e ∙ sym (ap (λ (c : Bool). option_map (own_after number items) (if c then None else slice_get (made items) (number - 1))) e)
    by false e =
        let above : 0 < number = above_zero number e in
        let back : number - 1 + 1 ≡ number = omega (arith, above) in
        numbered_at number handles above
        ∙ (s.each (number - 1)
        ∙ (ap (λ (n : ℕ). option_map (own_after n items) (slice_get (made items) (number - 1))) back
        ∙ sym (ap (option_map (own_after number items)) (numbered_at number (made items) above))))

end_by : (number : ℕ) (items : List RpcItem) (o : Option Made) → end_of (option_map (own_after number items) o) ≡ seen (is_some o) (own_ended number items)
end_by number items (Some m) = refl
end_by number items None = refl

-- whether a handle has ended, where it was made
pub made_as : (number : ℕ) (handles : List OwnHandle) (items : List RpcItem) → OwnerStands handles items → owner.end_in number handles ≡ end_after (own_key number) items
made_as number handles items s = ap end_of (numbered number handles items s) ∙ end_by number items (own_made number items)

object_by : (number : ℕ) (items : List RpcItem) (o : Option Made) (ended : Bool) → own_ended number items ≡ ended → living_object (option_map (own_after number items) o) ≡ (if is_some o && not ended then option_map (λ (m : Made). m.object) o else None)
object_by number items (Some m) true e = ap (λ (b : Bool). if b then None else Some m.object) e
object_by number items (Some m) false e = ap (λ (b : Bool). if b then None else Some m.object) e
object_by number items None ended e = refl

-- the object of a handle, while it lives
pub objects_as : (number : ℕ) (handles : List OwnHandle) (items : List RpcItem) → OwnerStands handles items → object_in number handles ≡ own_object number items
objects_as number handles items s = ap living_object (numbered number handles items s) ∙ object_by number items (own_made number items) (own_ended number items) refl

-- why so many more handles can't be made
pub room_as : (count : ℕ) (handles : List OwnHandle) (items : List RpcItem) → OwnerStands handles items → room_refusal count handles ≡ many_refusal count items
room_as count handles items s = ap (λ (n : ℕ). if nat_lt most_drawn (n + count) then Some refusal.TooManyHandles else None) s.count

room_for_one : (a b : ℕ) → nat_lt a (b + 1) ≡ nat_le a b
room_for_one a b = elim (cases_lt b a) [
  | inl l ↦ le-ltb a (b + 1) (omega (arith, l)) ∙ sym (lt-leb a b l)
  | inr l ↦ lt-ltb a (b + 1) (omega (arith, l)) ∙ sym (le-leb a b l)
]

-- why no object is answered
pub answers_as : (object : ℕ) (items : List RpcItem) → many_refusal 1 items ≡ answer_refusal (answer.Object object) items
answers_as object items = ap (λ (b : Bool). if b then Some refusal.TooManyHandles else None) (room_for_one most_drawn (last_handle items))

-- a call on a handle asks its object, while it lives

live_by : (o : Option Made) (live : Bool) (object : ℕ) → (if live then option_map (λ (m : Made). m.object) o else None) ≡ Some object → (live ≡ true) × ((handle : ℕ) → object_target o handle ≡ target.Object object handle)
live_by (Some m) true object e = (refl, λ handle. ap (λ (k : ℕ). target.Object k handle) (let same : m.object ≡ object = cc e in same))
live_by (Some m) false object e = absurd (cc e)
live_by None true object e = absurd (cc e)
live_by None false object e = absurd (cc e)

pub object_asked : (number object : ℕ) (items : List RpcItem) → own_object number items ≡ Some object → (own_live number items ≡ true) × (object_target (own_made number items) number ≡ target.Object object number)
object_asked number object items e = (let parts = live_by (own_made number items) (own_live number items) object e in (parts.0, parts.1 number))

dead_by : (o : Option Made) (ended live : Bool) → (is_some o && not ended) ≡ live → (if live then option_map (λ (m : Made). m.object) o else None) ≡ None → live ≡ false
dead_by (Some m) ended true l e = absurd (cc e)
dead_by None ended true l e = absurd (cc l)
dead_by o ended false l e = refl

pub no_object_asked : (number : ℕ) (items : List RpcItem) → own_object number items ≡ None → own_live number items ≡ false
no_object_asked number items e = dead_by (own_made number items) (own_ended number items) (own_live number items) refl e

-- handles of the peer

held_by : (number : ℕ) (items : List RpcItem) (o : Option Adopted) → option_map (λ (h : PeerHandle). h.ended) (option_map (held_after number items) o) ≡ seen (is_some o) (peer_ended number items)
held_by number items (Some a) = refl
held_by number items None = refl

-- whether a handle has ended, where it was adopted
pub held_as : (number : ℕ) (held : List PeerHandle) (items : List RpcItem) → HolderStands held items → holder.end_in number held ≡ end_after (peer_key number) items
held_as number held items s = ap (option_map (λ (h : PeerHandle). h.ended)) (s.each number) ∙ held_by number items (adopted number items)
