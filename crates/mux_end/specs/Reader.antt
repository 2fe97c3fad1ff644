-- The reader of what an end is fed.
use Rattle.std.specs.Prelude.{◌≡◌, ◌≤◌, ◌+◌, length, false}
use Rattle.frame_reader.specs.Unread.{Unread}
use Rattle.mux_items.specs.Limits.{most_bytes}
use Rattle.mux_state.specs.Book.{Book, is_ready_book}

-- it reads frames of the end's version, was fed all that the end was, and begins only once the end is ready for frames
pub record IsReaderOf (book : Book) (reader : Unread) : Type 0 where
  pub one_version : reader.version ≡ book.version
  pub fed_all : reader.fed ≡ reader.at + length reader.rest
  pub fed_within : reader.fed ≤ most_bytes
  pub waits : is_ready_book book ≡ false → reader.begun ≡ false
