-- What stands once a response came.
use Rattle.marshalled_handles.proofs.After.{answered_after}
use Rattle.marshalled_handles.proofs.owner.Owner.answered.Goals as goal

pub returns-clause-stands : goal.returns-clause-stands
returns-clause-stands c = λ items place message outcome s says. answered_after c.args.request place message outcome c.args.self.now c.answer_each.new.self items c.answer_each.ensures says s
