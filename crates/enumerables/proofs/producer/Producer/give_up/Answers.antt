-- What stands once a token is given up.
use Rattle.std.proofs.Common.{rules}
use Rattle.enumerables.proofs.After.{given_up_after}
use Rattle.enumerables.proofs.producer.Producer.give_up.Goals as goal

pub returns-in-Some-clause-stands : goal.returns-in-Some-clause-stands
returns-in-Some-clause-stands c = λ items place message s is. given_up_after c.args.token.now place message c.args.self.now c.end.new.self items (search rules) is s

pub returns-in_default-clause-stands : goal.returns-in_default-clause-stands
returns-in_default-clause-stands c = λ items place message s is. given_up_after c.args.token.now place message c.args.self.now c.args.self.now items (search rules) is s
