-- What the two tests tell of the handles among arguments.
use Rattle.std.specs.List.{list_any}
use Rattle.std.specs.Prelude.{false, true}
use Rattle.std.proofs.Common.{◌∙◌, refl, sym}
use Rattle.marshalled_handles.specs.Arguments.{is_over_arg}
use Rattle.marshalled_handles.proofs.Carried.{handed_by}
use Rattle.marshalled_handles.proofs.holder.Holder.check_arguments.Goals as goal

pub returns-then-has_unknown : goal.returns-then-has_unknown
returns-then-has_unknown c =
    handed_by c.args.self.now c.args.args.now true (list_any (is_over_arg c.args.self.now) c.args.args.now) (sym c.if-has_unknown.true ∙ c.has_unknown.ensures) refl

pub returns-then-has_over : goal.returns-then-has_over
returns-then-has_over c = handed_by c.args.self.now c.args.args.now false true (sym c.if-has_unknown.false ∙ c.has_unknown.ensures) (sym c.if-has_over.true ∙ c.has_over.ensures)

pub returns : goal.returns
returns c = handed_by c.args.self.now c.args.args.now false false (sym c.if-has_unknown.false ∙ c.has_unknown.ensures) (sym c.if-has_over.false ∙ c.has_over.ensures)
