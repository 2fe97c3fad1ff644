-- What a reader has of its stream.
use Rattle.std.specs.Prelude.{ℕ, ◌+◌, List, ◌++◌, length, drop, Bool, true}
use Rattle.wire_base.specs.declared.frame.Version.{Version}

-- the version of its frames, the place of the first byte that it didn't give, the bytes from there on, how many bytes it was fed, and whether it has given, skipped or refused any
pub record Unread : Type 0 where
  pub version : Version
  pub at : ℕ
  pub rest : List ℕ
  pub fed : ℕ
  pub begun : Bool

-- with a piece behind
abbrev pub with_piece : (piece : List ℕ) → Unread → Unread
with_piece piece r = record r { rest = r.rest ++ piece; fed = r.fed + length piece }

-- with so many bytes given or skipped
abbrev pub without_front : (size : ℕ) → Unread → Unread
without_front size r = record r { at = r.at + size; rest = drop size r.rest; begun = true }

-- with a refusal answered
abbrev pub with_refusal : Unread → Unread
with_refusal r = record r { begun = true }
