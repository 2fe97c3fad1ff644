use Rattle.std.proofs.Common.{refl}
use Rattle.pack_value.proofs.Spelled.{shortest_is_spelling}
use Rattle.pack_value.proofs.encoder.encode.Goals as goal

pub returns-clause-spelled : goal.returns-clause-spelled
returns-clause-spelled c = shortest_is_spelling c.args.value.now (c.if-not-fits.ensures.valid refl) (c.if-not-nests_within.ensures.0 refl)
