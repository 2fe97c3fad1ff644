-- The sequences that are followed on are those of which another page was asked for, or none.
use Rattle.std.specs.Prelude.{not, filter}
use Rattle.std.proofs.Common.{rules, ◌∙◌, ap, List}
use Rattle.std.proofs.lemmas.Fn.{filter_same}
use Rattle.enumerables.specs.declared.followed.Followed.{Followed}
use Rattle.enumerables.specs.Consumer.{is_turn_of}
use Rattle.enumerables.proofs.consumer.Consumer.finish.Goals as goal

pub returns : goal.returns
returns c = filter_same _ (λ (f : Followed). not (is_turn_of c.args.number f.turn)) _ (λ x b f' k. search rules) _ _ c.retain.ensures.filtered ∙ ap (λ (fs : List Followed). filter (λ (f : Followed). not (is_turn_of c.args.number f.turn)) fs) c.self.view_is
