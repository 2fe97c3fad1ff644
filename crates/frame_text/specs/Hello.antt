-- The handshake that an end writes at its start.
use Rattle.std.specs.Prelude.{ℕ, List, [], ◌∷◌}
use Rattle.wire_base.specs.declared.frame.Version.{Version}
use Rattle.wire_base.specs.declared.frame.Version.TheVariants as version

-- version 1: four bytes and the nonce; version 2: an array of the numbers 2 and 0, and of the nonce; version 3: none
abbrev pub hello : Version → List ℕ → List ℕ
hello version.One nonce = 0x2f ∷ 0xdf ∷ 0x1d ∷ 0x50 ∷ nonce
hello version.Two nonce = 0x92 ∷ 0x92 ∷ 0x02 ∷ 0x00 ∷ 0xc4 ∷ 0x10 ∷ nonce
hello version.Three nonce = []
