use Rattle.mux_items.proofs.Exact.{credits-sent}
use Rattle.mux_items.proofs.Totals.{windows-sent, credits-sent-le}
use Rattle.mux_items.proofs.laws.credit_is_told.Goals as goal

pub returns : goal.returns
returns c = record { window = windows-sent; at_most = credits-sent-le; exact = credits-sent }
