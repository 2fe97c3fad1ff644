-- The sequences that are followed on are those of other requests.
use Rattle.std.specs.Prelude.{not, ◌==◌}
use Rattle.std.proofs.Common.{rules, ◌∙◌, ap}
use Rattle.std.proofs.lemmas.Fn.{filter_same}
use Rattle.enumerables.specs.declared.followed.Followed.{Followed}
use Rattle.enumerables.specs.Consumer.{without}
use Rattle.enumerables.proofs.consumer.Consumer.leave.Goals as goal

pub returns : goal.returns
returns c = filter_same _ (λ (f : Followed). not (f.request == c.args.n)) _ (λ x b f' k. search rules) _ _ c.retain.ensures.filtered ∙ ap (without c.args.n) c.self.view_is
