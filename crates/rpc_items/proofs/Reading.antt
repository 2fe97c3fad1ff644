-- What is written as a value is read as the same message.
use Rattle.std.specs.Prelude.{if◌then◌else◌, Bool, true, Ok, Err}
use Rattle.std.proofs.Common.{◌≡◌, List, [], ◌∷◌, refl, ◌∙◌, ap, ap₂, Some, None}
use Rattle.wire_base.specs.Tree as tree
use Rattle.wire_base.specs.Tree.{Tree, trees_of, list_of}
use Rattle.wire_base.specs.declared.reason.Reason.TheVariants as reason
use Rattle.wire_base.specs.declared.text.Id.TheVariants.{Number, Name}
use Rattle.wire_base.proofs.Back.{pair_list_of-pairs_of}
use Rattle.rpc_items.specs.declared.messages.Params.TheVariants.{Absent, Named}
use Rattle.rpc_items.specs.declared.messages.Params.TheVariants as params
use Rattle.rpc_items.specs.declared.messages.Message.{Message}
use Rattle.rpc_items.specs.declared.messages.Message.TheVariants.{Request, Notification}
use Rattle.rpc_items.specs.declared.messages.Message.TheVariants as message
use Rattle.rpc_items.specs.Ids.{is_id_number}
use Rattle.rpc_items.specs.Writing.{message_value}
use Rattle.rpc_items.specs.Reading.{id_or_bad, call_with, result_with, error_with, message_in}
use Rattle.rpc_items.specs.Told.{CanBeTold}

-- to a value's items and back
pub list_of-trees_of : (values : List Tree) → list_of (trees_of values) ≡ values
list_of-trees_of [] = refl
list_of-trees_of (v ∷ values) = ap (λ vs. v ∷ vs) (list_of-trees_of values)

in_range : (b : Bool) (m : Message) → b ≡ true → (if b then Ok m else Err reason.BadError) ≡ Ok m
in_range b m e = ap (λ b. if b then Ok m else Err reason.BadError) e

pub written : (m : Message) → CanBeTold m → message_in (message_value m) ≡ Ok m
written (Request id method Absent) e = ap (λ i. call_with method (id_or_bad i) (Ok Absent)) e
written (Request id method (params.List values)) e = ap₂ (λ i vs. call_with method (id_or_bad i) (Ok (params.List vs))) e (list_of-trees_of values)
written (Request id method (Named ps)) e = ap₂ (λ i qs. call_with method (id_or_bad i) (Ok (Named qs))) e (pair_list_of-pairs_of ps)
written (Notification method Absent) e = refl
written (Notification method (params.List values)) e = ap (λ vs. Ok (Notification method (params.List vs))) (list_of-trees_of values)
written (Notification method (Named ps)) e = ap (λ qs. Ok (Notification method (Named qs))) (pair_list_of-pairs_of ps)
written (message.Result id value) e = ap (λ i. result_with i value) e
written (message.Error (Some (Number z)) code text None) e = ap (λ i. error_with (id_or_bad i) (Some (tree.whole code)) (Some (tree.words text)) None) e.0 ∙ in_range (is_id_number code) (message.Error (Some (Number z)) code text None) e.1
written (message.Error (Some (Number z)) code text (Some more)) e = ap (λ i. error_with (id_or_bad i) (Some (tree.whole code)) (Some (tree.words text)) (Some more)) e.0 ∙ in_range (is_id_number code) (message.Error (Some (Number z)) code text (Some more)) e.1
written (message.Error (Some (Name s)) code text None) e = ap (λ i. error_with (id_or_bad i) (Some (tree.whole code)) (Some (tree.words text)) None) e.0 ∙ in_range (is_id_number code) (message.Error (Some (Name s)) code text None) e.1
written (message.Error (Some (Name s)) code text (Some more)) e = ap (λ i. error_with (id_or_bad i) (Some (tree.whole code)) (Some (tree.words text)) (Some more)) e.0 ∙ in_range (is_id_number code) (message.Error (Some (Name s)) code text (Some more)) e.1
written (message.Error None code text None) e = ap (λ b. if b then Ok (message.Error None code text None) else Err reason.BadError) e.1
written (message.Error None code text (Some more)) e = ap (λ b. if b then Ok (message.Error None code text (Some more)) else Err reason.BadError) e.1
