-- What stands once a handle is offered.
use Rattle.std.proofs.lemmas.Result.{on_ok_weaker}
use Rattle.marshalled_handles.proofs.After.{adopted_after}
use Rattle.marshalled_handles.proofs.holder.Holder.adopt.Goals as goal

pub returns-clause-stands : goal.returns-clause-stands
returns-clause-stands c = λ items place message s offers. on_ok_weaker c.keep.result (λ made. adopted_after c.args.number c.args.until place message c.args.self.now c.keep.new.self items made offers s) c.keep.ensures.ok
