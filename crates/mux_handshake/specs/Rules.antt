-- The rules that a handshake's tokens keep, and the first token that breaks one. From the multiplexing stream's protocol.
use Rattle.std.specs.Prelude.{ℕ, List, length, take, Some, None, ◌==◌, nat_lt, if◌then◌else◌}
use Rattle.std.specs.Int.{w8}
use Rattle.std.specs.Str.{bytes_eq}
use Rattle.wire_base.specs.declared.limits.TheConstants.{COUNT_LIMIT}
use Rattle.wire_base.specs.declared.reason.Reason.TheVariants.{BadMagic, BadVersion, SameNonce, BadShape2}
use Rattle.wire_base.specs.declared.frame.Version.{Version}
use Rattle.wire_base.specs.declared.frame.Version.TheVariants as version
use Rattle.wire_base.specs.Tokens.{is_number, is_bin, is_array}
use Rattle.wire_base.specs.Rules.{Due, Refusal, due_then, natural, has_count, has_length, field_then}
use Rattle.mux_items.specs.Limits.{nonce_size}

-- an array of two elements
abbrev pub pair_due : Due
pair_due = record { begins = is_array; may_say = has_count 2; other = BadShape2; wrong = BadShape2 }

-- the major number, which is 2
abbrev pub major_due : Due
major_due = record { begins = is_number; may_say = natural (λ n. n == 2); other = BadShape2; wrong = BadVersion }

-- the minor number: 0 to 2^63 - 1
abbrev pub minor_due : Due
minor_due = record { begins = is_number; may_say = natural (λ n. nat_lt n COUNT_LIMIT); other = BadShape2; wrong = BadShape2 }

-- a bin of the bytes of a nonce
abbrev pub bin_due : Due
bin_due = record { begins = is_bin; may_say = has_length (λ n. n == nonce_size); other = BadShape2; wrong = BadShape2 }

-- the peer's nonce, which differs from the own one; the rule is applied once it is whole
abbrev pub nonce_refusal : (own : List ℕ) → List ℕ → Refusal
nonce_refusal own bytes =
    if nat_lt (length bytes) nonce_size then None
    else if bytes_eq own (take nonce_size bytes) then Some (0, SameNonce)
    else None

-- one of the four bytes, each of which is a token of its own
abbrev pub magic_then : ℕ → (List ℕ → Refusal) → List ℕ → Refusal
magic_then byte next = field_then w8 (λ n. n == byte) BadMagic (λ n. next)

-- version 1: four bytes and the nonce
abbrev pub plain_refusal : (own : List ℕ) → List ℕ → Refusal
plain_refusal own = magic_then 0x2f (magic_then 0xdf (magic_then 0x1d (magic_then 0x50 (nonce_refusal own))))

-- version 2: an array of two, which are an array of the major and the minor number, and the nonce as a bin
abbrev pub packed_refusal : (own : List ℕ) → List ℕ → Refusal
packed_refusal own = due_then pair_due (λ parts. due_then pair_due (λ numbers. due_then major_due (λ major. due_then minor_due (λ minor. due_then bin_due (λ bin. nonce_refusal own)))))

-- the first token of a handshake that breaks a rule, at an end with this nonce; version 3 has none
unfoldable pub first_refusal : Version → (own : List ℕ) → List ℕ → Refusal
first_refusal version.One own bytes = plain_refusal own bytes
first_refusal version.Two own bytes = packed_refusal own bytes
first_refusal version.Three own bytes = None
