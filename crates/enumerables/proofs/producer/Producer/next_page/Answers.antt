-- The next page is that of the items.
use Rattle.std.specs.Prelude.{IfOk}
use Rattle.std.proofs.Common.{◌≡◌, subst, Option}
use Rattle.wire_base.specs.Tree.{Tree}
use Rattle.enumerables.proofs.Tokens.{pages_as}
use Rattle.enumerables.proofs.producer.Producer.next_page.Goals as goal

pub returns-clause-stands : goal.returns-clause-stands
returns-clause-stands c = λ items s. subst (λ (o : Option Tree). IfOk c.page_in.result (λ page. page ≡ o)) (pages_as c.args.self.now items c.args.token.now s) c.page_in.ensures
