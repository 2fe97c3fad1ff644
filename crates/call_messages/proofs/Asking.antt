-- What arguments ask for, and what they are said as, one by one.
use Rattle.std.specs.Prelude.{ℕ, ◌+◌, List, [], ◌∷◌, length, None}
use Rattle.std.specs.List.{list_any}
use Rattle.std.proofs.Common.{◌≡◌, refl, ap, arith}
use Rattle.rpc_items.specs.declared.calls.Arg.{Arg}
use Rattle.rpc_items.specs.declared.calls.Arg.TheVariants as arg
use Rattle.rpc_items.specs.Drawn.{has_progress_arg}
use Rattle.rpc_items.specs.Ids.{count_value}
use Rattle.rpc_items.specs.Made.{made_in}
use Rattle.rpc_items.specs.Objects.{handed_value}
use Rattle.rpc_items.specs.Saying.{arg_values}
use Rattle.call_messages.specs.Messages.{arg_value, is_progress}

-- whether arguments ask for progress, one by one
pub asks_progress : (args : List Arg) → list_any is_progress args ≡ has_progress_arg args
asks_progress [] = refl
asks_progress (arg.Plain value ∷ args) = asks_progress args
asks_progress (arg.Progress ∷ args) = refl
asks_progress (arg.Object object lifetime ∷ args) = asks_progress args
asks_progress (arg.Handed handle ∷ args) = asks_progress args

-- the handles that arguments get
pub handles_next : (a : Arg) (args : List Arg) → length (made_in None (a ∷ args)) ≡ length (made_in None (a ∷ [])) + length (made_in None args)
handles_next (arg.Plain value) args = omega arith
handles_next arg.Progress args = omega arith
handles_next (arg.Object object lifetime) args = omega arith
handles_next (arg.Handed handle) args = omega arith

-- those behind an argument that gets none
values_same : (n drawn : ℕ) (args : List Arg) → arg_values n drawn args ≡ arg_values n (drawn + 0) args
values_same n drawn args = ap (λ (d : ℕ). arg_values n d args) (omega arith)

-- an argument as it is said, and those behind it
pub values_next : (n drawn : ℕ) (a : Arg) (args : List Arg) → arg_values n drawn (a ∷ args) ≡ arg_value n (drawn + 1) a ∷ arg_values n (drawn + length (made_in None (a ∷ []))) args
values_next n drawn (arg.Plain value) args = ap (λ values. value ∷ values) (values_same n drawn args)
values_next n drawn arg.Progress args = ap (λ values. count_value n ∷ values) (values_same n drawn args)
values_next n drawn (arg.Object object lifetime) args = refl
values_next n drawn (arg.Handed handle) args = ap (λ values. handed_value handle ∷ values) (values_same n drawn args)
