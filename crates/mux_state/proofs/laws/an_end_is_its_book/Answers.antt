use Rattle.std.proofs.Common.{refl}
use Rattle.mux_state.proofs.Books.{accept_by_book, write_by_book, read_by_book, complete_by_book, terminate_by_book, offer_by_book, drawn_is, frame_by_book, room_by_book, view_by_book, tally_by_book, known_by_book}
use Rattle.mux_state.proofs.Booking.{book_step}
use Rattle.mux_state.proofs.Dues.{due_by_book, event_by_book}
use Rattle.mux_state.proofs.laws.an_end_is_its_book.Goals as goal

pub returns : goal.returns
returns c = record {
  next = book_step;
  due = due_by_book;
  event = event_by_book;
  offer = offer_by_book;
  drawn = drawn_is;
  accept = accept_by_book;
  write = write_by_book;
  read = read_by_book;
  complete = complete_by_book;
  terminate = terminate_by_book;
  frame = frame_by_book;
  room = room_by_book;
  view = view_by_book;
  tally = tally_by_book;
  known = known_by_book;
  ready = λ v items. refl;
  start = λ v. refl;
}
