-- What arguments and answers ask of handles, and what stands after the calls that carry them.
use Rattle.std.specs.List.{list_any}
use Rattle.std.specs.Prelude.{Bool, true, false, not, nat_lt, is_none, is_some, length, if◌then◌else◌, Option}
use Rattle.std.proofs.Common.{◌≡◌, ℕ, ◌+◌, List, ◌∷◌, refl, sym, ◌∙◌, ap, ap₂, Some, None}
use Rattle.wire_base.specs.declared.refusal.Refusal.{Refusal}
use Rattle.wire_base.specs.declared.refusal.Refusal.TheVariants as refusal
use Rattle.wire_base.specs.declared.text.Id.{Id}
use Rattle.wire_base.specs.Options.{or_else}
use Rattle.rpc_items.specs.declared.calls.Answer.TheVariants as answer
use Rattle.rpc_items.specs.declared.calls.Arg.{Arg}
use Rattle.rpc_items.specs.declared.calls.Arguments.{Arguments}
use Rattle.rpc_items.specs.declared.calls.Expect.{Expect}
use Rattle.rpc_items.specs.Arguments.{args_refusal, handed, has_reserved, most_drawn}
use Rattle.rpc_items.specs.Drawn.{arg_list, drawn}
use Rattle.rpc_items.specs.Handles.{has_ended, is_made}
use Rattle.rpc_items.specs.Items.{RpcItem, Did, Ask, Tell, Respond, Invoke, is_running}
use Rattle.rpc_items.specs.Keys.{peer_key}
use Rattle.rpc_items.specs.Made.{last_handle, made_in}
use Rattle.rpc_items.specs.PeerHandles.{Adopted, adopted, peer_ended}
use Rattle.rpc_items.specs.Refusals.{answer_refusal}
use Rattle.marshalled_handles.specs.declared.own_handle.OwnHandle.{OwnHandle}
use Rattle.marshalled_handles.specs.declared.peer_handle.PeerHandle.{PeerHandle}
use Rattle.marshalled_handles.specs.Arguments.{handed_refusal, is_over, objects_refusal, offered_all}
use Rattle.marshalled_handles.specs.Holder.{end_in}
use Rattle.marshalled_handles.specs.Owner.{offered, room_refusal}
use Rattle.marshalled_handles.specs.Replies.{seen}
use Rattle.marshalled_handles.specs.Stands.{HolderStands, OwnerStands}
use Rattle.marshalled_handles.proofs.Holding.{unadopted_lives}
use Rattle.marshalled_handles.proofs.Owning.{made_stands}
use Rattle.marshalled_handles.proofs.Reading.{answers_as, held_as, room_as}

-- handles that go back to their owner

unadopted_unended : (number : ℕ) (items : List RpcItem) → is_made (peer_key number) items ≡ false → has_ended (peer_key number) items ≡ false
unadopted_unended number items e = by (adopted number items) refl
  where
    by : (o : Option Adopted) → adopted number items ≡ o → peer_ended number items ≡ false
    by (Some a) f = absurd (cc (sym e ∙ ap is_some f))
    by None f = unadopted_lives number items f

unknown_by : (made ended : Bool) → is_none (seen made ended) ≡ not made
unknown_by true ended = refl
unknown_by false ended = refl

-- a handle that wasn't adopted hasn't ended
over_by : (made ended : Bool) → (made ≡ false → ended ≡ false) → is_over (seen made ended) ≡ ended
over_by true ended lives = refl
over_by false ended lives = sym (lives refl)

module _ (held : List PeerHandle) (items : List RpcItem) (s : HolderStands held items) where
  unknown_as : (number : ℕ) → is_none (end_in number held) ≡ not (is_made (peer_key number) items)
  unknown_as number = ap is_none (held_as number held items s) ∙ unknown_by (is_made (peer_key number) items) (has_ended (peer_key number) items)

  over_as : (number : ℕ) → is_over (end_in number held) ≡ has_ended (peer_key number) items
  over_as number = ap is_over (held_as number held items s) ∙ over_by (is_made (peer_key number) items) (has_ended (peer_key number) items) (unadopted_unended number items)

  handed_as : (args : List Arg) → handed_refusal args held
      ≡ (if list_any (λ handle. not (is_made (peer_key handle) items)) (handed args) then Some refusal.NoHandle
      else if list_any (λ handle. has_ended (peer_key handle) items) (handed args) then Some refusal.Released
      else None)
  handed_as args =
      ap₂ (λ (unknown over : Bool). if unknown then Some refusal.NoHandle else if over then Some refusal.Released else None)
      (λ i. list_any (λ number. unknown_as number i) (handed args)) (λ i. list_any (λ number. over_as number i) (handed args))

-- why arguments are refused

one_by_one : (reserved unknown over full : Bool)
    → (if reserved then Some refusal.ReservedMember else if unknown then Some refusal.NoHandle else if over then Some refusal.Released else if full then Some refusal.TooManyHandles else None)
    ≡ or_else (if reserved then Some refusal.ReservedMember else None) (or_else (if unknown then Some refusal.NoHandle else if over then Some refusal.Released else None) (if full then Some refusal.TooManyHandles else None))
one_by_one true unknown over full = refl
one_by_one false true over full = refl
one_by_one false false true full = refl
one_by_one false false false full = refl

pub args_as : (args : Arguments) (handles : List OwnHandle) (held : List PeerHandle) (items : List RpcItem) → OwnerStands handles items → HolderStands held items
    → args_refusal args items ≡ or_else (if has_reserved args then Some refusal.ReservedMember else None) (or_else (handed_refusal (arg_list args) held) (objects_refusal (arg_list args) handles))
args_as args handles held items s t =
    one_by_one (has_reserved args) (list_any (λ handle. not (is_made (peer_key handle) items)) (handed (arg_list args))) (list_any (λ handle. has_ended (peer_key handle) items) (handed (arg_list args)))
    (nat_lt most_drawn (last_handle items + length (made_in None (arg_list args))))
    ∙ sym (ap₂ (λ (of_handed of_objects : Option Refusal). or_else (if has_reserved args then Some refusal.ReservedMember else None) (or_else of_handed of_objects))
    (handed_as held items t (arg_list args)) (room_as (length (made_in None (arg_list args))) handles items s))

-- why an object is no answer
pub object_as : (object : ℕ) (handles : List OwnHandle) (items : List RpcItem) → OwnerStands handles items → room_refusal 1 handles ≡ answer_refusal (answer.Object object) items
object_as object handles items s = room_as 1 handles items s ∙ answers_as object items

-- what stands after a call that offers objects

pub asked_stands : (method : List ℕ) (args : Arguments) (expect : Expect) (handles : List OwnHandle) (items : List RpcItem) → is_running items ≡ true → OwnerStands handles items
    → OwnerStands (offered_all (Some (drawn items + 1)) (arg_list args) handles) (Did (Ask method args expect) ∷ items)
asked_stands method args expect handles items runs s = made_stands (Ask method args expect) handles items runs refl s

pub invoked_stands : (handle : ℕ) (method : List ℕ) (args : Arguments) (expect : Expect) (handles : List OwnHandle) (items : List RpcItem) → is_running items ≡ true → OwnerStands handles items
    → OwnerStands (offered_all (Some (drawn items + 1)) (arg_list args) handles) (Did (Invoke handle method args expect) ∷ items)
invoked_stands handle method args expect handles items runs s = made_stands (Invoke handle method args expect) handles items runs refl s

pub told_stands : (method : List ℕ) (args : Arguments) (handles : List OwnHandle) (items : List RpcItem) → is_running items ≡ true → OwnerStands handles items
    → OwnerStands (offered_all None (arg_list args) handles) (Did (Tell method args) ∷ items)
told_stands method args handles items runs s = made_stands (Tell method args) handles items runs refl s

pub object_stands : (id : Id) (object : ℕ) (handles : List OwnHandle) (items : List RpcItem) → is_running items ≡ true → OwnerStands handles items
    → OwnerStands (offered (record { object = object; until = None }) handles) (Did (Respond id (answer.Object object)) ∷ items)
object_stands id object handles items runs s = made_stands (Respond id (answer.Object object)) handles items runs refl s
