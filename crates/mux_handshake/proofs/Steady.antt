-- What was read of a handshake stays so, whatever follows.
use Rattle.std.proofs.Common.{◌≡◌, ℕ, ◌+◌, ◌-◌, ◌≤◌, ◌<◌, true, false, cond, List, ◌++◌, length, Ok, Err, refl, sym, subst, length-append}
use Rattle.std.specs.Int.{w8}
use Rattle.std.specs.Str.{bytes_eq}
use Rattle.wire_base.specs.declared.frame.Version.{Version}
use Rattle.wire_base.specs.declared.frame.Version.TheVariants as version
use Rattle.wire_base.specs.declared.reason.Reason.{Reason}
use Rattle.wire_base.specs.declared.reason.Reason.TheVariants.{BadMagic, BadVersion, SameNonce, BadShape2}
use Rattle.wire_base.specs.declared.reading.Fault.TheVariants.{Ends, Breaks}
use Rattle.wire_base.specs.Tokens.{Reading, follow, head_at, field_at, token_at, bytes_at, only, a_number, a_bin, an_array, count_in}
use Rattle.wire_base.proofs.TokenSorts.{is_sort-number, is_sort-bin, is_sort-array}
use Rattle.wire_base.proofs.TokenSteady.{IsSteady, Steady, steady-then, allowed-steady, head_at-steady, token_at-steady, field_at-steady, bytes_at-steady}
use Rattle.mux_items.specs.declared.party.Party.{Party}
use Rattle.mux_items.specs.Parties.{party_by}
use Rattle.mux_handshake.specs.Handshake.{nonce_at, plain_at, packed_at, major_at, major_in, handshake_at, handshake, Handshake, Whole, Short, Broken}
use Rattle.wire_base.specs.Front.{front_of}
use Rattle.wire_base.proofs.Fronts.{IsFrontBelow, front_of-below, IsFrontSteady, front_of-steady, cut_short}
use Rattle.mux_handshake.proofs.Stopping.{judged}
use Rattle.mux_handshake.proofs.Taking.{handshake_takes}
use Rattle.mux_items.specs.Limits.{nonce_size}

judged-steady : (own : List ℕ) (total : ℕ) (more : List ℕ) (r s : Reading (List ℕ)) → IsSteady more r s → IsSteady more (follow r (judged own total)) (follow s (judged own (total + length more)))
judged-steady own total more (Ok x) s h =
    rw h (elim (bytes_eq own x.0) as (λ b. IsSteady {A = Party} more (cond b (Err (Breaks total SameNonce)) (Ok (party_by own x.0, x.1))) (cond b (Err (Breaks (total + length more) SameNonce)) (Ok (party_by own x.0, x.1 ++ more)))) [ true ↦ refl | false ↦ refl ])
judged-steady own total more (Err Ends) s h = tt
judged-steady own total more (Err (Breaks left reason)) s h = rw h refl

nonce_at-steady : (own : List ℕ) → Steady (nonce_at own)
unfolding nonce_at
nonce_at-steady own = record {
  at = λ bytes more. rw (length-append bytes more) (judged-steady own (length bytes) more (bytes_at nonce_size bytes) (bytes_at nonce_size (bytes ++ more)) ((bytes_at-steady nonce_size).at bytes more));
}

magic-steady : (byte : ℕ) → Steady (field_at w8 (only byte) BadMagic)
magic-steady byte = field_at-steady w8 (only byte) BadMagic

plain_at-steady : (own : List ℕ) → Steady (plain_at own)
unfolding plain_at
plain_at-steady own =
    steady-then (field_at w8 (only 0x2f) BadMagic) _ (magic-steady 0x2f) (λ first.
    steady-then (field_at w8 (only 0xdf) BadMagic) _ (magic-steady 0xdf) (λ second.
    steady-then (field_at w8 (only 0x1d) BadMagic) _ (magic-steady 0x1d) (λ third.
    steady-then (field_at w8 (only 0x50) BadMagic) _ (magic-steady 0x50) (λ fourth. nonce_at-steady own))))

major_at-steady : Steady major_at
unfolding major_at
major_at-steady = record {
  at = λ bytes more. rw (length-append bytes more) (allowed-steady major_in BadVersion (length bytes) more (head_at a_number BadShape2 bytes) (head_at a_number BadShape2 (bytes ++ more)) ((head_at-steady a_number BadShape2 is_sort-number).at bytes more));
}

packed_at-steady : (own : List ℕ) → Steady (packed_at own)
unfolding packed_at
packed_at-steady own =
    let two = token_at-steady an_array (only 2) BadShape2 is_sort-array in
    steady-then (token_at an_array (only 2) BadShape2) _ two (λ parts.
    steady-then (token_at an_array (only 2) BadShape2) _ two (λ numbers.
    steady-then major_at _ major_at-steady (λ major.
    steady-then (token_at a_number count_in BadShape2) _ (token_at-steady a_number count_in BadShape2 is_sort-number) (λ minor.
    steady-then (token_at a_bin (only nonce_size) BadShape2) _ (token_at-steady a_bin (only nonce_size) BadShape2 is_sort-bin) (λ size. nonce_at-steady own)))))

handshake_at-steady : (v : Version) (own bytes more : List ℕ) → IsSteady more (handshake_at v own bytes) (handshake_at v own (bytes ++ more))
handshake_at-steady version.One own bytes more = (plain_at-steady own).at bytes more
handshake_at-steady version.Two own bytes more = (packed_at-steady own).at bytes more
handshake_at-steady version.Three own bytes more = refl

-- ---- the front

handshake-steady : (v : Version) (own bytes more : List ℕ) → IsFrontSteady (handshake v own bytes) (handshake v own (bytes ++ more))
unfolding handshake
handshake-steady v own bytes more =
    subst (λ n. IsFrontSteady (front_of (length bytes) (handshake_at v own bytes)) (front_of n (handshake_at v own (bytes ++ more)))) (sym (length-append bytes more))
    (front_of-steady (length bytes) more (handshake_at v own bytes) (handshake_at v own (bytes ++ more)) (handshake_at-steady v own bytes more))

pub whole_stays : (v : Version) (own bytes more : List ℕ) (party : Party) (size : ℕ) → handshake v own bytes ≡ Whole party size → handshake v own (bytes ++ more) ≡ Whole party size
whole_stays v own bytes more party size e = subst (λ (x : Handshake). IsFrontSteady x (handshake v own (bytes ++ more))) e (handshake-steady v own bytes more)

pub broken_stays : (v : Version) (own bytes more : List ℕ) (offset : ℕ) (reason : Reason) → handshake v own bytes ≡ Broken offset reason → handshake v own (bytes ++ more) ≡ Broken offset reason
broken_stays v own bytes more offset reason e = subst (λ (x : Handshake). IsFrontSteady x (handshake v own (bytes ++ more))) e (handshake-steady v own bytes more)

handshake-within : (v : Version) (own bytes : List ℕ) → IsFrontBelow (length bytes) (handshake v own bytes)
unfolding handshake
handshake-within v own bytes = front_of-below (length bytes) (handshake_at v own bytes)

pub whole_within : (v : Version) (own bytes : List ℕ) (party : Party) (size : ℕ) → handshake v own bytes ≡ Whole party size → size ≤ length bytes
whole_within v own bytes party size e = subst (λ (x : Handshake). IsFrontBelow (length bytes) x) e (handshake-within v own bytes)

pub whole_cut : (v : Version) (own a b : List ℕ) (party : Party) (size : ℕ) → handshake v own (a ++ b) ≡ Whole party size → length a < size → handshake v own a ≡ Short
whole_cut v own a b party size e lt = cut_short (handshake v own a) (handshake v own (a ++ b)) party size (length a) (handshake-steady v own a b) (handshake-within v own a) e lt

pub ruleset steady = (whole_within, handshake_takes, whole_stays, broken_stays, whole_cut)
