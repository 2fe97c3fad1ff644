-- What the sequences tell is what the items tell.
use Rattle.std.specs.Prelude.{IfOk}
use Rattle.std.proofs.Common.{◌≡◌, subst, Option, Some}
use Rattle.wire_base.specs.declared.refusal.Refusal.{Refusal}
use Rattle.wire_base.specs.declared.text.Id.{Id}
use Rattle.rpc_items.specs.Checks.{Checks}
use Rattle.enumerables.proofs.Reading.{follows_as, tokens_as}
use Rattle.enumerables.proofs.consumer.Consumer.check.Goals as goal

pub returns-clause-stands : goal.returns-clause-stands
returns-clause-stands c = λ items s. subst (λ (r : Option Refusal). Checks r c.token.result) (follows_as c.args.n c.args.self.now items s) c.token.ensures.answer

pub returns-clause-names : goal.returns-clause-names
returns-clause-names c = λ items s. subst (λ (o : Option Id). IfOk c.token.result (λ token. o ≡ Some token.now)) (tokens_as c.args.n c.args.self.now items s) c.token.ensures.token
