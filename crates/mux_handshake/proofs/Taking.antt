-- A handshake of version 1 or 2 takes a byte at least.
use Rattle.std.proofs.Common.{◌≡◌, ℕ, ◌<◌, List, length, refl, subst, arith, ◌≢◌}
use Rattle.std.specs.Int.{w8}
use Rattle.wire_base.specs.declared.frame.Version.{Version}
use Rattle.wire_base.specs.declared.frame.Version.TheVariants as version
use Rattle.wire_base.specs.declared.reason.Reason.TheVariants.{BadMagic, BadShape2}
use Rattle.wire_base.specs.Tokens.{field_at, token_at, only, a_number, a_bin, an_array, count_in}
use Rattle.wire_base.proofs.TokenWithin.{IsProper, proper-follow, below-then, below-stops, field_at-stops, token_at-stops}
use Rattle.wire_base.proofs.Fronts.{IsFrontWithin, front_of-within}
use Rattle.mux_items.specs.declared.party.Party.{Party}
use Rattle.mux_handshake.specs.Handshake.{Whole, plain_at, packed_at, major_at, handshake_at, handshake, Handshake}
use Rattle.mux_handshake.proofs.Stopping.{nonce_at-below, magic-below, major_at-stops}
use Rattle.mux_items.specs.Limits.{nonce_size}

plain_at-takes : (own bytes : List ℕ) → IsProper (length bytes) (plain_at own bytes)
unfolding plain_at
plain_at-takes own bytes =
    proper-follow (length bytes) (field_at w8 (only 0x2f) BadMagic bytes) _ ((field_at-stops w8 (only 0x2f) BadMagic (omega arith)).at bytes) (λ first.
    below-then (field_at w8 (only 0xdf) BadMagic) _ (magic-below 0xdf) (λ second.
    below-then (field_at w8 (only 0x1d) BadMagic) _ (magic-below 0x1d) (λ third.
    below-then (field_at w8 (only 0x50) BadMagic) _ (magic-below 0x50) (λ fourth. nonce_at-below own))))

packed_at-takes : (own bytes : List ℕ) → IsProper (length bytes) (packed_at own bytes)
unfolding packed_at
packed_at-takes own bytes =
    let two = token_at-stops an_array (only 2) BadShape2 in
    proper-follow (length bytes) (token_at an_array (only 2) BadShape2 bytes) _ (two.at bytes) (λ parts.
    below-then (token_at an_array (only 2) BadShape2) _ (below-stops 1 17 (token_at an_array (only 2) BadShape2) two) (λ numbers.
    below-then major_at _ (below-stops 1 17 major_at major_at-stops) (λ major.
    below-then (token_at a_number count_in BadShape2) _ (below-stops 1 17 (token_at a_number count_in BadShape2) (token_at-stops a_number count_in BadShape2)) (λ minor.
    below-then (token_at a_bin (only nonce_size) BadShape2) _ (below-stops 1 17 (token_at a_bin (only nonce_size) BadShape2) (token_at-stops a_bin (only nonce_size) BadShape2)) (λ size. nonce_at-below own)))))

handshake_at-takes : (v : Version) (own bytes : List ℕ) → v ≢ version.Three → IsProper (length bytes) (handshake_at v own bytes)
handshake_at-takes version.One own bytes other = plain_at-takes own bytes
handshake_at-takes version.Two own bytes other = packed_at-takes own bytes
handshake_at-takes version.Three own bytes other = absurd (other refl)

pub handshake_takes : (v : Version) (own bytes : List ℕ) (party : Party) (size : ℕ) → v ≢ version.Three → handshake v own bytes ≡ Whole party size → 0 < size
unfolding handshake
handshake_takes v own bytes party size other e =
    let p = subst (λ (x : Handshake). IsFrontWithin (length bytes) x) e (front_of-within (length bytes) (handshake_at v own bytes) (handshake_at-takes v own bytes other)) in
    p.0
