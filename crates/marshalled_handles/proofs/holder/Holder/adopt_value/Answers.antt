-- What stands once objects are offered.
use Rattle.std.proofs.lemmas.Result.{on_err_weaker, on_ok_weaker}
use Rattle.std.specs.Option.{option_copied}
use Rattle.std.specs.Prelude.{◌∷◌, []}
use Rattle.marshalled_handles.proofs.After.{all_adopted_after}
use Rattle.marshalled_handles.proofs.Finding.{same_keeps}
use Rattle.marshalled_handles.proofs.holder.Holder.adopt_value.Goals as goal

pub returns-clause-stands : goal.returns-clause-stands
returns-clause-stands c = λ items place message s offers. on_ok_weaker c.keep_value.result (λ made. all_adopted_after (option_copied c.args.request) (c.args.value.now ∷ []) place message c.args.self.now c.keep_value.new.self items made offers s) c.keep_value.ensures.ok

pub returns-clause-err : goal.returns-clause-err
returns-clause-err c = on_err_weaker c.keep_value.result (λ same. same_keeps c.args.self.now c.keep_value.new.self same) c.keep_value.ensures.err
