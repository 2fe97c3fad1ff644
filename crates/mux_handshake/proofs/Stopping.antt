-- A handshake's reading stops within the bytes that it was given.
use Rattle.std.proofs.Common.{◌≡◌, ℕ, ◌≤◌, List, length, Ok, Err, true, false, cond, subst, arith}
use Rattle.std.specs.Int.{w8}
use Rattle.std.specs.Str.{bytes_eq}
use Rattle.wire_base.specs.declared.frame.Version.{Version}
use Rattle.wire_base.specs.declared.frame.Version.TheVariants as version
use Rattle.wire_base.specs.declared.reason.Reason.{Reason}
use Rattle.wire_base.specs.declared.reason.Reason.TheVariants.{BadMagic, BadVersion, SameNonce, BadShape2}
use Rattle.wire_base.specs.declared.reading.Fault.TheVariants.{Ends, Breaks}
use Rattle.wire_base.specs.Tokens.{Reader, Reading, follow, head_at, field_at, token_at, bytes_at, only, a_number, a_bin, an_array, count_in}
use Rattle.wire_base.proofs.TokenWithin.{Stops, IsBelow, Ends-below, IsCut, bytes_at-is, below-then, below-stops, field_at-below, head_at-stops, token_at-stops, allowed-within}
use Rattle.mux_items.specs.declared.party.Party.{Party}
use Rattle.mux_items.specs.Parties.{party_by}
use Rattle.mux_handshake.specs.Handshake.{nonce_at, plain_at, packed_at, major_at, major_in, handshake_at}
use Rattle.mux_items.specs.Limits.{nonce_size}

-- what a whole nonce says, where its first byte begins so many bytes before the end
abbrev pub judged : (own : List ℕ) → (total : ℕ) → List ℕ → Reader Party
judged own total nonce rest = cond (bytes_eq own nonce) (Err (Breaks total SameNonce)) (Ok (party_by own nonce, rest))

judged-below : (own : List ℕ) (total : ℕ) (r : Reading (List ℕ)) → IsCut total r → IsBelow total (follow r (judged own total))
judged-below own total (Ok x) h =
    elim (bytes_eq own x.0) as (λ b. IsBelow {A = Party} total (cond b (Err (Breaks total SameNonce)) (Ok (party_by own x.0, x.1)))) [ true ↦ omega arith | false ↦ omega (arith, h) ]
judged-below own total (Err Ends) h = tt
judged-below own total (Err (Breaks left reason)) h = absurd h

pub nonce_at-below : (own : List ℕ) → Ends-below (nonce_at own)
unfolding nonce_at
nonce_at-below own = record { at = λ bytes. judged-below own (length bytes) (bytes_at nonce_size bytes) (bytes_at-is nonce_size bytes) }

pub magic-below : (byte : ℕ) → Ends-below (field_at w8 (only byte) BadMagic)
magic-below byte = field_at-below w8 (only byte) BadMagic (omega arith)

plain_at-below : (own : List ℕ) → Ends-below (plain_at own)
unfolding plain_at
plain_at-below own =
    below-then (field_at w8 (only 0x2f) BadMagic) _ (magic-below 0x2f) (λ first.
    below-then (field_at w8 (only 0xdf) BadMagic) _ (magic-below 0xdf) (λ second.
    below-then (field_at w8 (only 0x1d) BadMagic) _ (magic-below 0x1d) (λ third.
    below-then (field_at w8 (only 0x50) BadMagic) _ (magic-below 0x50) (λ fourth. nonce_at-below own))))

pub major_at-stops : Stops 1 17 major_at
unfolding major_at
major_at-stops = record { at = λ bytes. allowed-within major_in BadVersion (length bytes) (head_at a_number BadShape2 bytes) ((head_at-stops a_number BadShape2).at bytes) }

packed_at-below : (own : List ℕ) → Ends-below (packed_at own)
unfolding packed_at
packed_at-below own =
    let two = below-stops 1 17 (token_at an_array (only 2) BadShape2) (token_at-stops an_array (only 2) BadShape2) in
    below-then (token_at an_array (only 2) BadShape2) _ two (λ parts.
    below-then (token_at an_array (only 2) BadShape2) _ two (λ numbers.
    below-then major_at _ (below-stops 1 17 major_at major_at-stops) (λ major.
    below-then (token_at a_number count_in BadShape2) _ (below-stops 1 17 (token_at a_number count_in BadShape2) (token_at-stops a_number count_in BadShape2)) (λ minor.
    below-then (token_at a_bin (only nonce_size) BadShape2) _ (below-stops 1 17 (token_at a_bin (only nonce_size) BadShape2) (token_at-stops a_bin (only nonce_size) BadShape2)) (λ size. nonce_at-below own)))))

pub handshake_at-below : (v : Version) (own bytes : List ℕ) → IsBelow (length bytes) (handshake_at v own bytes)
handshake_at-below version.One own bytes = (plain_at-below own).at bytes
handshake_at-below version.Two own bytes = (packed_at-below own).at bytes
handshake_at-below version.Three own bytes = omega arith

pub read-within : (v : Version) (own bytes : List ℕ) (party : Party) (rest : List ℕ) → handshake_at v own bytes ≡ Ok (party, rest) → length rest ≤ length bytes
read-within v own bytes party rest e =
    let p : IsBelow (length bytes) (Ok (party, rest)) = subst (λ (r : Reading Party). IsBelow (length bytes) r) e (handshake_at-below v own bytes) in
    p

pub broken-within : (v : Version) (own bytes : List ℕ) (left : ℕ) (reason : Reason) → handshake_at v own bytes ≡ Err (Breaks left reason) → left ≤ length bytes
broken-within v own bytes left reason e = subst (λ (r : Reading Party). IsBelow (length bytes) r) e (handshake_at-below v own bytes)

pub ruleset stops = (read-within, broken-within)
