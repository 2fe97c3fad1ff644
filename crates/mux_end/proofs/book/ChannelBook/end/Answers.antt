use Rattle.std.proofs.Common.{subst, sym}
use Rattle.std.specs.Prelude.{All}
use Rattle.mux_end.specs.Known.{IsOf}
use Rattle.mux_end.proofs.Places.{ended_stays}
use Rattle.mux_end.proofs.book.ChannelBook.end.Goals as goal

pub invariant_of-self : goal.invariant_of-self
invariant_of-self c = subst (All (IsOf c.self.inside.version)) (sym c.on_end.ensures) (ended_stays c.self.inside.version c.self.inside.channels c.self.invariant)
