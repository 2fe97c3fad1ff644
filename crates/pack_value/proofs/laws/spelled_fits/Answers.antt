use Rattle.pack_value.proofs.Apart.{fitting}
use Rattle.pack_value.proofs.laws.spelled_fits.Goals as goal

pub returns : goal.returns
returns c = λ t b p. fitting t b p.spelled
