-- What a reader has of its stream.
use Rattle.std.specs.Prelude.{ℕ, ◌+◌, List, ◌++◌, length, drop}
use Rattle.message_framing.specs.declared.framing.Framing.{Framing}

-- the framing of its messages, the place of the first byte that it didn't give, the bytes from there on, and how many bytes it was fed
pub record Unread : Type 0 where
  pub framing : Framing
  pub at : ℕ
  pub rest : List ℕ
  pub fed : ℕ

-- with a piece behind
abbrev pub with_piece : (piece : List ℕ) → Unread → Unread
with_piece piece r = record r { rest = r.rest ++ piece; fed = r.fed + length piece }

-- with so many bytes given
abbrev pub without_front : (size : ℕ) → Unread → Unread
without_front size r = record r { at = r.at + size; rest = drop size r.rest }
