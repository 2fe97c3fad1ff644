use Rattle.std.proofs.Common.{ap}
use Rattle.mux_state.specs.Book.{Book}
use Rattle.mux_state.specs.State.{ChannelState}
use Rattle.mux_end.proofs.Booking.{fresh_of}
use Rattle.mux_end.proofs.book.ChannelBook.hear.Goals as goal

pub invariant_of-self-2 : goal.invariant_of-self-2
invariant_of-self-2 c =
    c.insert.ensures.stays c.self.inside.version c.self.invariant
    (fresh_of c.self.inside.version c.args.self.now.version c.args.key c.heard-channel.result c.new.result (ap (λ (b : Book). b.version) c.self.view_is) c.requires.fits c.new.ensures (ap (λ (s : ChannelState). s.version) c.heard-channel.ensures))
