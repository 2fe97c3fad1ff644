use Rattle.mux_state.proofs.Bounds.{apart_in_book, kept_in_book, offers_in_book, ids_in_book}
use Rattle.mux_state.proofs.laws.a_book_is_sound.Goals as goal

pub returns : goal.returns
returns c = record { apart = apart_in_book; kept = kept_in_book; offers = offers_in_book; ids = ids_in_book }
