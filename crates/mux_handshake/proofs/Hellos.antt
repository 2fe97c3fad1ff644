-- The peer's hello is read as its handshake.
use Rattle.std.proofs.Common.{◌≡◌, ◌≢◌, ℕ, suc, zero, ◌-◌, ◌<◌, true, false, List, [], ◌∷◌, ◌++◌, length, take, Some, Ok, Err, refl, ap, subst, ◌∙◌, arith, rules, length-append}
use Rattle.std.specs.Prelude.{pos}
use Rattle.std.specs.Int.{w8, from_be_bytes}
use Rattle.std.specs.Str.{bytes_eq}
use Rattle.std.proofs.lemmas.Bool.{lt-ltb}
use Rattle.std.proofs.lemmas.List.{length-take}
use Rattle.std.proofs.lemmas.Slice.Eq.{bytes_eq-Decides}
use Rattle.wire_base.specs.Head.{lettered}
use Rattle.wire_base.specs.declared.frame.Version.{Version}
use Rattle.wire_base.specs.declared.frame.Version.TheVariants as version
use Rattle.wire_base.specs.declared.token.TokenHead.TheVariants as token
use Rattle.wire_base.specs.declared.reason.Reason.TheVariants.{BadMagic, BadVersion, SameNonce, BadShape2}
use Rattle.wire_base.specs.declared.reading.Fault.TheVariants.{Ends}
use Rattle.frame_text.specs.Hello.{hello}
use Rattle.wire_base.specs.Tokens.{follow, allowed, head_at, field_at, token_at, bytes_at, only, a_number, a_bin, an_array, count_in}
use Rattle.wire_base.proofs.TokenAgain.{head_at-again, token_at-again, field-again, bytes-again}
use Rattle.mux_items.specs.Parties.{party_by}
use Rattle.mux_handshake.specs.Handshake.{nonce_at, plain_at, packed_at, major_at, major_in, handshake_at, handshake, Whole, Short, Broken}
use Rattle.mux_handshake.proofs.Stopping.{judged}
use Rattle.mux_items.specs.Limits.{nonce_size}

-- ---- up to the nonce

magic-again : (byte : ℕ) (rest : List ℕ) → only byte (from_be_bytes w8 (byte ∷ [])) ≡ Some byte → field_at w8 (only byte) BadMagic (byte ∷ rest) ≡ Ok (byte, rest)
magic-again byte rest makes = field-again w8 (only byte) BadMagic byte (byte ∷ []) rest refl makes

plain_at-again : (own rest : List ℕ) → plain_at own (0x2f ∷ 0xdf ∷ 0x1d ∷ 0x50 ∷ rest) ≡ nonce_at own rest
unfolding plain_at
plain_at-again own rest = rw (
  magic-again 0x2f (0xdf ∷ 0x1d ∷ 0x50 ∷ rest) refl,
  magic-again 0xdf (0x1d ∷ 0x50 ∷ rest) refl,
  magic-again 0x1d (0x50 ∷ rest) refl,
  magic-again 0x50 rest refl,
) refl

array-again : (rest : List ℕ) → token_at an_array (only 2) BadShape2 (0x92 ∷ rest) ≡ Ok (2, rest)
array-again rest = token_at-again an_array (only 2) BadShape2 (token.Array 2) 2 2 (0x92 ∷ []) rest refl refl refl

major_at-again : (rest : List ℕ) → major_at (0x02 ∷ rest) ≡ Ok (2, rest)
unfolding major_at
major_at-again rest =
    ap (λ r. follow r (λ z. allowed (length (0x02 ∷ rest)) BadVersion (major_in z))) (head_at-again a_number BadShape2 (token.Whole (pos 2)) (pos 2) (0x02 ∷ []) rest refl refl)

minor-again : (rest : List ℕ) → token_at a_number count_in BadShape2 (0x00 ∷ rest) ≡ Ok (0, rest)
minor-again rest = token_at-again a_number count_in BadShape2 (token.Whole (pos 0)) (pos 0) 0 (0x00 ∷ []) rest refl refl refl

bin-again : (rest : List ℕ) → token_at a_bin (only nonce_size) BadShape2 (0xc4 ∷ 0x10 ∷ rest) ≡ Ok (nonce_size, rest)
unfolding lettered
bin-again rest = token_at-again a_bin (only nonce_size) BadShape2 (token.Bin nonce_size) nonce_size nonce_size (0xc4 ∷ 0x10 ∷ []) rest refl refl refl

packed_at-again : (own rest : List ℕ) → packed_at own (0x92 ∷ 0x92 ∷ 0x02 ∷ 0x00 ∷ 0xc4 ∷ 0x10 ∷ rest) ≡ nonce_at own rest
unfolding packed_at
packed_at-again own rest = rw (
  array-again (0x92 ∷ 0x02 ∷ 0x00 ∷ 0xc4 ∷ 0x10 ∷ rest),
  array-again (0x02 ∷ 0x00 ∷ 0xc4 ∷ 0x10 ∷ rest),
  major_at-again (0x00 ∷ 0xc4 ∷ 0x10 ∷ rest),
  minor-again (0xc4 ∷ 0x10 ∷ rest),
  bin-again rest,
) refl

-- ---- the nonce

sixteen-again : (n : ℕ) (peer rest : List ℕ) → length peer ≡ n → bytes_at n (peer ++ rest) ≡ Ok (peer, rest)
sixteen-again n peer rest len = subst (λ m. bytes_at m (peer ++ rest) ≡ Ok (peer, rest)) len (bytes-again peer rest)

nonce_at-again : (own peer rest : List ℕ) → length peer ≡ nonce_size → nonce_at own (peer ++ rest) ≡ judged own (length (peer ++ rest)) peer rest
unfolding nonce_at
nonce_at-again own peer rest len = ap (λ r. follow r (judged own (length (peer ++ rest)))) (sixteen-again nonce_size peer rest len)

nonce_at-short : (own bytes : List ℕ) → length bytes < nonce_size → nonce_at own bytes ≡ Err Ends
unfolding nonce_at bytes_at
nonce_at-short own bytes short = rw (lt-ltb (length bytes) nonce_size short) refl

-- ---- a hello

greeting-again : (v : Version) (own peer rest : List ℕ) → v ≢ version.Three → length peer ≡ nonce_size → handshake_at v own (hello v peer ++ rest) ≡ judged own (length (peer ++ rest)) peer rest
greeting-again version.One own peer rest two len = plain_at-again own (peer ++ rest) ∙ nonce_at-again own peer rest len
greeting-again version.Two own peer rest two len = packed_at-again own (peer ++ rest) ∙ nonce_at-again own peer rest len
greeting-again version.Three own peer rest two len = absurd (two refl)

pub other_hello : (v : Version) (own peer rest : List ℕ) → v ≢ version.Three → length peer ≡ nonce_size → own ≢ peer → handshake v own (hello v peer ++ rest) ≡ Whole (party_by own peer) (length (hello v peer))
unfolding handshake
other_hello v own peer rest two len apart =
    let total = length (hello v peer ++ rest) in
    let differ : bytes_eq own peer ≡ false = search (rules, bytes_eq-Decides) in
    let same : total - length rest ≡ length (hello v peer) = omega (arith, length-append (hello v peer) rest) in
    rw (greeting-again v own peer rest two len, differ) (ap (λ n. Whole (party_by own peer) n) same)

nonce_place : (v : Version) (own rest : List ℕ) → v ≢ version.Three → length own ≡ nonce_size → length (hello v own ++ rest) - length (own ++ rest) ≡ length (hello v own) - nonce_size
nonce_place version.One own rest two len = omega (arith, length-append own rest)
nonce_place version.Two own rest two len = omega (arith, length-append own rest)
nonce_place version.Three own rest two len = absurd (two refl)

pub same_hello : (v : Version) (own rest : List ℕ) → v ≢ version.Three → length own ≡ nonce_size → handshake v own (hello v own ++ rest) ≡ Broken (length (hello v own) - nonce_size) SameNonce
unfolding handshake
same_hello v own rest two len =
    let same : bytes_eq own own ≡ true = (bytes_eq-Decides own own).1 refl in
    rw (greeting-again v own own rest two len, same) (ap (λ n. Broken n SameNonce) (nonce_place v own rest two len))

-- ---- a hello cut

nonce_at-cut : (own peer : List ℕ) (n : ℕ) → n < nonce_size → nonce_at own (take n peer) ≡ Err Ends
nonce_at-cut own peer n below = nonce_at-short own (take n peer) (simp length-take (omega arith))

plain_at-cut : (own peer : List ℕ) (n : ℕ) → n < 20 → plain_at own (take n (0x2f ∷ 0xdf ∷ 0x1d ∷ 0x50 ∷ peer)) ≡ Err Ends
unfolding plain_at field_at
plain_at-cut own peer zero below = refl
plain_at-cut own peer (suc zero) below = refl
plain_at-cut own peer (suc (suc zero)) below = refl
plain_at-cut own peer (suc (suc (suc zero))) below = refl
plain_at-cut own peer (suc (suc (suc (suc n)))) below = plain_at-again own (take n peer) ∙ nonce_at-cut own peer n (omega arith)

packed_at-cut : (own peer : List ℕ) (n : ℕ) → n < 22 → packed_at own (take n (0x92 ∷ 0x92 ∷ 0x02 ∷ 0x00 ∷ 0xc4 ∷ 0x10 ∷ peer)) ≡ Err Ends
unfolding packed_at token_at head_at major_at lettered
packed_at-cut own peer zero below = refl
packed_at-cut own peer (suc zero) below = refl
packed_at-cut own peer (suc (suc zero)) below = refl
packed_at-cut own peer (suc (suc (suc zero))) below = refl
packed_at-cut own peer (suc (suc (suc (suc zero)))) below = refl
packed_at-cut own peer (suc (suc (suc (suc (suc zero))))) below = refl
packed_at-cut own peer (suc (suc (suc (suc (suc (suc n)))))) below = packed_at-again own (take n peer) ∙ nonce_at-cut own peer n (omega arith)

pub hello_cut : (v : Version) (own peer : List ℕ) (n : ℕ) → v ≢ version.Three → length peer ≡ nonce_size → n < length (hello v peer) → handshake v own (take n (hello v peer)) ≡ Short
unfolding handshake
hello_cut version.One own peer n two len below = rw (plain_at-cut own peer n (omega arith)) refl
hello_cut version.Two own peer n two len below = rw (packed_at-cut own peer n (omega arith)) refl
hello_cut version.Three own peer n two len below = absurd (two refl)

pub ruleset hellos = (other_hello, same_hello, hello_cut)
