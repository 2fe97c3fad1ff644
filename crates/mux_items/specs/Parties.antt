-- Which side's ids are odd, by the nonces of the handshakes.
use Rattle.std.specs.Prelude.{ℕ, List, [], ◌∷◌, Bool, true, false, nat_lt, if◌then◌else◌}
use Rattle.mux_items.specs.declared.party.Party.{Party}
use Rattle.mux_items.specs.declared.party.Party.TheVariants.{Odd, Even}

-- the first is greater at the first byte that differs, byte by byte, unsigned
abbrev pub is_greater : List ℕ → List ℕ → Bool
is_greater [] other = false
is_greater (x ∷ xs) [] = true
is_greater (x ∷ xs) (y ∷ ys) = if nat_lt y x then true else if nat_lt x y then false else is_greater xs ys

-- the side with the greater nonce is Odd
abbrev pub party_by : (own peer : List ℕ) → Party
party_by own peer = if is_greater own peer then Odd else Even
