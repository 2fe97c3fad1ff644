-- A handshake is refused at its first token that breaks a rule.
use Rattle.std.proofs.Common.{◌≡◌, ℕ, ◌-◌, ltb, List, length, take, Some, refl, arith, inl, inr}
use Rattle.std.specs.Prelude.{is_some, ◌==◌, nat_lt}
use Rattle.std.specs.Int.{w8}
use Rattle.std.specs.Str.{bytes_eq}
use Rattle.wire_base.specs.declared.limits.TheConstants.{COUNT_LIMIT}
use Rattle.wire_base.specs.declared.token.TokenHead.{TokenHead}
use Rattle.wire_base.specs.declared.token.TokenHead.TheVariants as token
use Rattle.wire_base.specs.declared.reason.Reason.{Reason}
use Rattle.wire_base.specs.declared.reason.Reason.TheVariants.{BadMagic, BadVersion, SameNonce, BadShape2}
use Rattle.wire_base.specs.declared.frame.Version.{Version}
use Rattle.wire_base.specs.declared.frame.Version.TheVariants as version
use Rattle.wire_base.specs.Front.{Broken}
use Rattle.wire_base.specs.Tokens.{Reading, follow, a_number, a_bin, an_array, allowed, head_at, token_at, field_at, bytes_at, count_in, only}
use Rattle.wire_base.specs.Rules.{Refusal, judged, has_count, has_length, field_judged}
use Rattle.wire_base.proofs.TokenSorts.{is_sort-number, is_sort-bin, is_sort-array, number-own}
use Rattle.wire_base.proofs.TokenWithin.{tested}
use Rattle.wire_base.proofs.Refusals.{IsRefused, at_offset, step-then, meant, IsDue, some_if, number_says, head-step, token-step, field-step, front_of-refused, refused-front_of}
use Rattle.mux_items.specs.declared.party.Party.{Party}
use Rattle.mux_handshake.specs.Handshake.{nonce_at, plain_at, packed_at, major_at, major_in, handshake_at, handshake}
use Rattle.mux_handshake.specs.Rules.{pair_due, major_due, minor_due, bin_due, nonce_refusal, magic_then, plain_refusal, packed_refusal, first_refusal}
use Rattle.mux_items.specs.Limits.{nonce_size}

-- ---- the tokens that are due

pair_says : (h : TokenHead) → has_count 2 h ≡ is_some (meant an_array (only 2) h)
pair_says (token.Array n) = some_if (n == 2) n
pair_says token.Nil = refl
pair_says (token.Flag v) = refl
pair_says (token.Whole z) = refl
pair_says (token.Str n) = refl
pair_says (token.Bin n) = refl
pair_says (token.Map n) = refl

is_pair_due : IsDue an_array (only 2) pair_due
is_pair_due = record { begins = λ k. refl; says = pair_says; own = λ k rest h n own e none. refl }

is_major_due : IsDue a_number major_in major_due
is_major_due = record { begins = λ k. refl; says = number_says (λ n. n == 2) major_in (λ n. some_if (n == 2) n) (λ k. refl); own = λ k rest h n own e none. absurd (number-own k rest h n own e none) }

is_minor_due : IsDue a_number count_in minor_due
is_minor_due = record { begins = λ k. refl; says = number_says (λ n. nat_lt n COUNT_LIMIT) count_in (λ n. some_if (nat_lt n COUNT_LIMIT) n) (λ k. refl); own = λ k rest h n own e none. refl }

bin_says : (h : TokenHead) → has_length (λ n. n == nonce_size) h ≡ is_some (meant a_bin (only nonce_size) h)
bin_says (token.Bin n) = some_if (n == nonce_size) n
bin_says token.Nil = refl
bin_says (token.Flag v) = refl
bin_says (token.Whole z) = refl
bin_says (token.Str n) = refl
bin_says (token.Array n) = refl
bin_says (token.Map n) = refl

is_bin_due : IsDue a_bin (only nonce_size) bin_due
is_bin_due = record { begins = λ k. refl; says = bin_says; own = λ k rest h n own e none. refl }

-- ---- readings

nonce-refused : (own bytes : List ℕ) → IsRefused (length bytes) (nonce_at own bytes) (nonce_refusal own bytes)
unfolding nonce_at bytes_at
nonce-refused own bytes = elim (tested (ltb (length bytes) nonce_size)) [
  | inl t ↦ rw t refl
  | inr t ↦ elim (tested (bytes_eq own (take nonce_size bytes))) [
    | inl u ↦ rw (t, u) (omega arith, at_offset 0 (length bytes - length bytes) SameNonce (omega arith))
    | inr u ↦ rw (t, u) refl
  ]
]

magic-then : (byte : ℕ) (next : List ℕ → Reading Party) (rule : List ℕ → Refusal) (bytes : List ℕ) → ((rest : List ℕ) → IsRefused (length rest) (next rest) (rule rest)) → IsRefused (length bytes) (follow (field_at w8 (only byte) BadMagic bytes) (λ n. next)) (magic_then byte rule bytes)
magic-then byte next rule bytes h =
    step-then (λ (r : Reading Party). r) (λ n y. only byte n ≡ Some y) bytes (field_judged w8 (λ n. n == byte) BadMagic bytes) (field_at w8 (only byte) BadMagic bytes) (λ n. next) (λ n. rule) (λ f. refl)
    (field-step w8 (λ n. n == byte) (only byte) BadMagic (λ n. some_if (n == byte) n) bytes) (λ n y m rest. h rest)

plain-refused : (own bytes : List ℕ) → IsRefused (length bytes) (plain_at own bytes) (plain_refusal own bytes)
unfolding plain_at
plain-refused own bytes =
    magic-then 0x2f _ _ bytes (λ a. magic-then 0xdf _ _ a (λ b. magic-then 0x1d _ _ b (λ c. magic-then 0x50 _ _ c (nonce-refused own))))

packed-refused : (own bytes : List ℕ) → IsRefused (length bytes) (packed_at own bytes) (packed_refusal own bytes)
unfolding packed_at major_at
packed-refused own bytes =
    step-then (λ (r : Reading Party). r) (λ h y. meant an_array (only 2) h ≡ Some y) bytes (judged pair_due bytes) (token_at an_array (only 2) BadShape2 bytes) _ _ (λ f. refl)
    (token-step an_array (only 2) pair_due is_pair_due is_sort-array refl bytes) (λ h x m a.
    step-then (λ (r : Reading Party). r) (λ h y. meant an_array (only 2) h ≡ Some y) a (judged pair_due a) (token_at an_array (only 2) BadShape2 a) _ _ (λ f. refl)
    (token-step an_array (only 2) pair_due is_pair_due is_sort-array refl a) (λ h x m b.
    step-then (λ (r : Reading Party). r) (λ h y. meant a_number major_in h ≡ Some y) b (judged major_due b) (follow (head_at a_number BadShape2 b) (λ number. allowed (length b) BadVersion (major_in number))) _ _ (λ f. refl)
    (head-step a_number major_in major_due is_major_due is_sort-number b) (λ h x m c.
    step-then (λ (r : Reading Party). r) (λ h y. meant a_number count_in h ≡ Some y) c (judged minor_due c) (token_at a_number count_in BadShape2 c) _ _ (λ f. refl)
    (token-step a_number count_in minor_due is_minor_due is_sort-number refl c) (λ h x m d.
    step-then (λ (r : Reading Party). r) (λ h y. meant a_bin (only nonce_size) h ≡ Some y) d (judged bin_due d) (token_at a_bin (only nonce_size) BadShape2 d) _ _ (λ f. refl)
    (token-step a_bin (only nonce_size) bin_due is_bin_due is_sort-bin refl d) (λ h x m rest. nonce-refused own rest)))))

handshake-refused : (v : Version) (own bytes : List ℕ) → IsRefused (length bytes) (handshake_at v own bytes) (first_refusal v own bytes)
unfolding first_refusal
handshake-refused version.One own bytes = plain-refused own bytes
handshake-refused version.Two own bytes = packed-refused own bytes
handshake-refused version.Three own bytes = refl

pub broken_first : (v : Version) (own bytes : List ℕ) (offset : ℕ) (reason : Reason) → handshake v own bytes ≡ Broken offset reason → first_refusal v own bytes ≡ Some (offset, reason)
unfolding handshake
broken_first v own bytes offset reason e = front_of-refused (length bytes) (handshake_at v own bytes) (first_refusal v own bytes) offset reason (handshake-refused v own bytes) e

pub first_broken : (v : Version) (own bytes : List ℕ) (offset : ℕ) (reason : Reason) → first_refusal v own bytes ≡ Some (offset, reason) → handshake v own bytes ≡ Broken offset reason
unfolding handshake
first_broken v own bytes offset reason e = refused-front_of (length bytes) (handshake_at v own bytes) (first_refusal v own bytes) offset reason (handshake-refused v own bytes) e

pub ruleset refusals = (broken_first, first_broken)
