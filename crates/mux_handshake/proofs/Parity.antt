-- A handshake of version 1 or 2 makes an end of either parity.
use Rattle.std.specs.Prelude.{ℕ, List, length, Bool, true, false, if◌then◌else◌, Ok, Err}
use Rattle.std.specs.Int.{w8}
use Rattle.std.specs.Str.{bytes_eq}
use Rattle.std.proofs.Common.{◌≡◌, refl, sym, ◌∙◌, ap}
use Rattle.wire_base.specs.declared.frame.Version.{Version}
use Rattle.wire_base.specs.declared.frame.Version.TheVariants as version
use Rattle.wire_base.specs.declared.reading.Fault.TheVariants.{Ends, Breaks}
use Rattle.wire_base.specs.declared.reason.Reason.TheVariants.{BadMagic, BadShape2, SameNonce}
use Rattle.wire_base.specs.Front.{Whole, front_of}
use Rattle.wire_base.specs.Tokens.{Reading, Reader, follow, ◌>>=◌, a_bin, a_number, an_array, bytes_at, count_in, field_at, only, token_at}
use Rattle.mux_items.specs.declared.party.Party.{Party}
use Rattle.mux_items.specs.declared.party.Party.TheVariants.{Odd, Even}
use Rattle.mux_items.specs.Applying.{is_parity}
use Rattle.mux_items.specs.Bodies.{is_three}
use Rattle.mux_items.specs.Parties.{is_greater, party_by}
use Rattle.mux_handshake.specs.Handshake.{major_at, nonce_at, plain_at, packed_at, handshake_at, handshake}
use Rattle.mux_items.specs.Limits.{nonce_size}

-- what is read is a party of either parity
abbrev HasParity : Reading Party → Type 0
HasParity (Ok x) = is_parity x.0 ≡ true
HasParity (Err fault) = Unit {0}

parity_follow : {A : Type 0} (r : Reading A) (next : A → Reader Party) → ((x : A) (bytes : List ℕ) → HasParity (next x bytes)) → HasParity (follow r next)
parity_follow (Ok x) next each = each x.0 x.1
parity_follow (Err fault) next each = tt

-- a reader of such a party
record Tells (read : Reader Party) : Type 0 where
  at : (bytes : List ℕ) → HasParity (read bytes)

tells_then : {A : Type 0} (read : Reader A) (next : A → Reader Party) → ((x : A) → Tells (next x)) → Tells (read >>= next)
tells_then read next each = record { at = λ bytes. parity_follow (read bytes) next (λ x. (each x).at) }

either : (greater : Bool) → is_parity (if greater then Odd else Even) ≡ true
either true = refl
either false = refl

parity_unless : (same : Bool) (size : ℕ) (own nonce rest : List ℕ) → HasParity (if same then Err (Breaks size SameNonce) else Ok (party_by own nonce, rest))
parity_unless true size own nonce rest = tt
parity_unless false size own nonce rest = either (is_greater own nonce)

nonce_tells : (own : List ℕ) → Tells (nonce_at own)
unfolding nonce_at
nonce_tells own = record { at = λ bytes. parity_follow (bytes_at nonce_size bytes) _ (λ nonce rest. parity_unless (bytes_eq own nonce) (length bytes) own nonce rest) }

plain_tells : (own : List ℕ) → Tells (plain_at own)
unfolding plain_at
plain_tells own =
    tells_then (field_at w8 (only 0x2f) BadMagic) _ (λ first. tells_then (field_at w8 (only 0xdf) BadMagic) _ (λ second.
    tells_then (field_at w8 (only 0x1d) BadMagic) _ (λ third. tells_then (field_at w8 (only 0x50) BadMagic) _ (λ fourth. nonce_tells own))))

packed_tells : (own : List ℕ) → Tells (packed_at own)
unfolding packed_at
packed_tells own =
    tells_then (token_at an_array (only 2) BadShape2) _ (λ parts. tells_then (token_at an_array (only 2) BadShape2) _ (λ numbers. tells_then major_at _ (λ major.
    tells_then (token_at a_number count_in BadShape2) _ (λ minor. tells_then (token_at a_bin (only nonce_size) BadShape2) _ (λ size. nonce_tells own)))))

reading_parity : (v : Version) (own bytes : List ℕ) → is_three v ≡ false → HasParity (handshake_at v own bytes)
reading_parity version.One own bytes e = (plain_tells own).at bytes
reading_parity version.Two own bytes e = (packed_tells own).at bytes
reading_parity version.Three own bytes e = absurd cc

whole_parity : (total : ℕ) (r : Reading Party) (party : Party) (size : ℕ) → HasParity r → front_of total r ≡ Whole party size → is_parity party ≡ true
whole_parity total (Ok x) party size h e = let same : x.0 ≡ party = cc in ap is_parity (sym same) ∙ h
whole_parity total (Err Ends) party size h e = absurd cc
whole_parity total (Err (Breaks left reason)) party size h e = absurd cc

pub handshake_parity : (v : Version) (own bytes : List ℕ) (party : Party) (size : ℕ) → is_three v ≡ false → handshake v own bytes ≡ Whole party size → is_parity party ≡ true
unfolding handshake
handshake_parity v own bytes party size other e = whole_parity (length bytes) (handshake_at v own bytes) party size (reading_parity v own bytes other) e
