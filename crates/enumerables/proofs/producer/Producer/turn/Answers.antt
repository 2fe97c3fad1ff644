-- What stands after a page.
use Rattle.std.proofs.Common.{rules}
use Rattle.enumerables.proofs.After.{paged_after}
use Rattle.enumerables.proofs.producer.Producer.turn.Goals as goal

pub returns-in-Some-clause-stands : goal.returns-in-Some-clause-stands
returns-in-Some-clause-stands c = λ items place id method params s means. paged_after c.args.token.now id place method params c.args.self.now c.end_page.new.self items (search rules) means s

pub returns-in_default-clause-stands : goal.returns-in_default-clause-stands
returns-in_default-clause-stands c = λ items place id method params s means. paged_after c.args.token.now id place method params c.args.self.now c.args.self.now items (search rules) means s
