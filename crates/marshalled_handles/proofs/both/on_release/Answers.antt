-- What stands once the peer released a handle.
use Rattle.std.proofs.Common.{◌∙◌}
use Rattle.marshalled_handles.proofs.Sides.{holder_released_after, living, owner_released_after}
use Rattle.marshalled_handles.proofs.both.on_release.Goals as goal

pub returns-clause-owner_stands : goal.returns-clause-owner_stands
returns-clause-owner_stands c = λ items place message s is. owner_released_after c.args.key place message c.args.owner.now c.end.new.owner items c.end.ensures.owner is s

pub returns-clause-holder_stands : goal.returns-clause-holder_stands
returns-clause-holder_stands c = λ items place message s is. holder_released_after c.args.key place message c.args.holder.now c.end.new.holder items c.end.ensures.holder is s

pub returns-clause-tells : goal.returns-clause-tells
returns-clause-tells c = λ items s t. c.lives-lived.ensures ∙ living c.args.owner.now c.args.holder.now items s t c.args.key
