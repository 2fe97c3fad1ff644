use Rattle.std.proofs.Common.{ap}
use Rattle.mux_state.specs.Book.{Book}
use Rattle.mux_state.specs.State.{ChannelState}
use Rattle.mux_end.proofs.Booking.{fresh_of}
use Rattle.mux_end.proofs.book.ChannelBook.add_offer.Goals as goal

pub invariant_of-self : goal.invariant_of-self
invariant_of-self c =
    c.insert.ensures.stays c.self.inside.version c.self.invariant
    (fresh_of c.self.inside.version c.args.self.now.version c.args.key c.offered-channel.result c.new.result (ap (λ (b : Book). b.version) c.self.view_is) c.requires.fits c.new.ensures (ap (λ (s : ChannelState). s.version) c.offered-channel.ensures))
