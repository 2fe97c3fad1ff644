-- What stands once objects are offered.
use Rattle.std.proofs.lemmas.Result.{on_ok_weaker}
use Rattle.std.specs.Option.{option_copied}
use Rattle.rpc_items.specs.Objects.{whole_arguments}
use Rattle.marshalled_handles.proofs.After.{all_adopted_after}
use Rattle.marshalled_handles.proofs.holder.Holder.adopt_arguments.Goals as goal

pub returns-clause-stands : goal.returns-clause-stands
returns-clause-stands c = λ items place message s offers. on_ok_weaker c.keep_arguments.result (λ made. all_adopted_after (option_copied c.args.request) (whole_arguments c.args.params.now) place message c.args.self.now c.keep_arguments.new.self items made offers s) c.keep_arguments.ensures.ok
