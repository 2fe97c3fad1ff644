use Rattle.std.specs.Prelude.{Option, IfOk, OnOk, List}
use Rattle.std.proofs.Common.{◌≡◌, ◌++◌, sym, subst}
use Rattle.wire_base.specs.declared.reason.Reason.{Reason}
use Rattle.mux_items.specs.Bodies.{ChannelFrame, body_of, frame_texts}
use Rattle.mux_items.specs.declared.channel.MuxEvent.{MuxEvent}
use Rattle.mux_state.specs.Book.{Book, next_book}
use Rattle.mux_end.specs.Keeps.{item_in, later_in}
use Rattle.mux_end.specs.Known.{Takes}
use Rattle.mux_end.proofs.Booking.{frame_is_later}
use Rattle.mux_end.proofs.book.ChannelBook.take.Goals as goal

pub returns-in_default : goal.returns-in_default
returns-in_default c =
    let frame = c.args.frame.now in
    let key = c.args.key in
    let book = c.args.self.now in
    record {
      takes = λ place.
          let later = frame_is_later place key frame.code frame.payload book c.in_default.not-Offer in
          subst (λ (refused : Option Reason). Takes refused book (next_book (item_in place key (body_of frame.code frame.payload) book) book) c.take_later.new.self c.take_later.result) (sym later.refusal)
          (subst (λ (next : Book). Takes (later_in key (body_of frame.code frame.payload) book) book next c.take_later.new.self c.take_later.result) (sym later.next) c.take_later.ensures.takes);
      event =
          let later = frame_is_later 0 key frame.code frame.payload book c.in_default.not-Offer in
          subst (λ (event : MuxEvent). IfOk c.take_later.result (λ e. e ≡ event)) (sym later.event) c.take_later.ensures.event;
      output = λ place.
          let later = frame_is_later place key frame.code frame.payload book c.in_default.not-Offer in
          subst (λ (frames : List ChannelFrame). OnOk c.take_later.result (c.take_later.new.out.items ≡ c.args.out.now.items ++ frame_texts book.version frames)) (sym later.due) c.take_later.ensures.output;
      unwritten = c.take_later.ensures.unwritten;
      one_version = c.take_later.ensures.one_version;
      one_party = c.take_later.ensures.one_party;
    }
