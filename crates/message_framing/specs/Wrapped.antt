-- Framed messages as they are written.
use Rattle.std.specs.Prelude.{ℕ, List, ◌++◌, length, codes}
use Rattle.std.specs.Fmt.{decimal}
use Rattle.std.specs.Int.{w32, to_be_bytes}
use Rattle.message_framing.specs.declared.framing.Framing.{Framing}
use Rattle.message_framing.specs.declared.framing.Framing.TheVariants as framing
use Rattle.message_framing.specs.Lines.{line_end}

-- what stands before a body of so many bytes
unfoldable pub head_text : Framing → ℕ → List ℕ
head_text framing.Header n = codes "Content-Length: " ++ (decimal n ++ (line_end ++ line_end))
head_text framing.Length n = to_be_bytes w32 n

-- a body with its head
abbrev pub wrapped : Framing → List ℕ → List ℕ
wrapped f body = head_text f (length body) ++ body
