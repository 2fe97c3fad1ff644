-- What stands once objects are offered.
use Rattle.std.proofs.lemmas.Result.{on_ok_weaker}
use Rattle.std.specs.Option.{option_copied}
use Rattle.marshalled_handles.proofs.After.{all_adopted_after}
use Rattle.marshalled_handles.proofs.holder.Holder.adopt_all.Goals as goal

pub returns-clause-stands : goal.returns-clause-stands
returns-clause-stands c = λ items place message s offers. on_ok_weaker c.keep_values.result (λ made. all_adopted_after (option_copied c.args.request) c.args.values.now place message c.args.self.now c.keep_values.new.self items made offers s) c.keep_values.ensures.ok
