-- Arguments one after another.
use Rattle.std.specs.List.{list_any}
use Rattle.std.specs.Prelude.{Bool, ◌||◌, filter, is_none, length, suc, if◌then◌else◌, Some, None}
use Rattle.std.proofs.Common.{◌≡◌, List, [], ◌∷◌, refl, sym, ◌∙◌, ap, ap₂}
use Rattle.wire_base.specs.declared.refusal.Refusal.TheVariants as refusal
use Rattle.rpc_items.specs.declared.calls.Arg.{Arg}
use Rattle.rpc_items.specs.declared.calls.Arg.TheVariants as arg
use Rattle.rpc_items.specs.Arguments.{handed}
use Rattle.rpc_items.specs.Made.{made_in}
use Rattle.marshalled_handles.specs.declared.peer_handle.PeerHandle.{PeerHandle}
use Rattle.marshalled_handles.specs.Arguments.{handed_refusal, is_object, is_over, is_over_arg, is_unknown_arg}
use Rattle.marshalled_handles.specs.Holder.{end_in}

-- handles that go back to their owner

module _ (held : List PeerHandle) where
  unknown_any : (args : List Arg) → list_any (λ number. is_none (end_in number held)) (handed args) ≡ list_any (is_unknown_arg held) args
  unknown_any [] = refl
  unknown_any (arg.Handed number ∷ args) = ap (λ (b : Bool). is_none (end_in number held) || b) (unknown_any args)
  unknown_any (a ∷ args) = unknown_any args

  over_any : (args : List Arg) → list_any (λ number. is_over (end_in number held)) (handed args) ≡ list_any (is_over_arg held) args
  over_any [] = refl
  over_any (arg.Handed number ∷ args) = ap (λ (b : Bool). is_over (end_in number held) || b) (over_any args)
  over_any (a ∷ args) = over_any args

  pub handed_by : (args : List Arg) (unknown over : Bool) → unknown ≡ list_any (is_unknown_arg held) args → over ≡ list_any (is_over_arg held) args
      → handed_refusal args held ≡ (if unknown then Some refusal.NoHandle else if over then Some refusal.Released else None)
  handed_by args unknown over e f =
      ap₂ (λ (a b : Bool). if a then Some refusal.NoHandle else if b then Some refusal.Released else None) (unknown_any args ∙ sym e) (over_any args ∙ sym f)

-- how many objects there are doesn't depend on the request that carries them
pub objects_counted : (args : List Arg) → length (filter is_object args) ≡ length (made_in None args)
objects_counted [] = refl
objects_counted (arg.Object object lifetime ∷ args) = ap suc (objects_counted args)
objects_counted (a ∷ args) = objects_counted args
