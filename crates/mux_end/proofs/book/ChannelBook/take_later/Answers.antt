use Rattle.std.proofs.Common.{◌∙◌, sym}
use Rattle.mux_items.specs.Bodies.{body_of}
use Rattle.mux_end.proofs.Booking.{later_takes}
use Rattle.mux_end.proofs.book.ChannelBook.take_later.Goals as goal

pub returns-then-has_offer-clause-takes : goal.returns-then-has_offer-clause-takes
returns-then-has_offer-clause-takes c =
    later_takes _ c.args.self.now c.args.key (body_of c.args.frame.now.code c.args.frame.now.payload) c.take.new.self c.take.result c.self.view_is (sym c.has_offer.ensures ∙ c.if-has_offer.true) c.take.ensures.takes
