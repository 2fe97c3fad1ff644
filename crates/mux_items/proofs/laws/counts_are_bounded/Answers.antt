use Rattle.mux_items.proofs.Emission.{emitted_bound}
use Rattle.mux_items.proofs.Taking.{handed_bound}
use Rattle.mux_items.proofs.laws.counts_are_bounded.Goals as goal

pub returns : goal.returns
returns c = record { handed = handed_bound; emitted = emitted_bound }
