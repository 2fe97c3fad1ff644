-- By their handshakes two ends have different parties, so an id is one's own or the other's.
use Rattle.std.specs.Prelude.{if◌then◌else◌, not, ◌&&◌, ◌==◌, Bool, true, false}
use Rattle.std.specs.Str.{bytes_eq}
use Rattle.std.proofs.Common.{◌≡◌, ℕ, ◌+◌, ◌*◌, ◌-◌, ◌%◌, ◌<◌, List, [], ◌∷◌, length, refl, sym, ◌∙◌, ap, inl, inr, arith}
use Rattle.std.proofs.Math.Nat.{mod-lt, mul-mod_right}
use Rattle.std.proofs.lemmas.Bool.{cases_lt, lt-ltb, le-ltb, eq-eqb}
use Rattle.std.proofs.lemmas.Nat.{mod-mul-add}
use Rattle.mux_items.specs.declared.party.Party.TheVariants.{Odd, Even}
use Rattle.mux_items.specs.Bodies.{has_parity}
use Rattle.mux_items.specs.Kept.{own_id}
use Rattle.mux_items.specs.Parties.{is_greater, party_by}

-- of two nonces of one length that differ one is greater

greater_turned : (xs ys : List ℕ) → length xs ≡ length ys → bytes_eq xs ys ≡ false → is_greater xs ys ≡ not (is_greater ys xs)
greater_turned [] [] long e = cc
greater_turned [] (y ∷ ys) long e = absurd (omega arith)
greater_turned (x ∷ xs) [] long e = absurd (omega arith)
greater_turned (x ∷ xs) (y ∷ ys) long e = elim (cases_lt x y) [
  | inl less ↦ rw (lt-ltb x y less, le-ltb y x (omega arith)) refl
  | inr most ↦ elim (cases_lt y x) [
    | inl less ↦ rw (lt-ltb y x less, le-ltb x y (omega arith)) refl
    | inr least ↦
        let same : x ≡ y = omega arith in
        let rest : bytes_eq xs ys ≡ false = ap (λ b. b && bytes_eq xs ys) (sym (eq-eqb x y same)) ∙ e in
        rw (le-ltb y x least, le-ltb x y most) (greater_turned xs ys (omega arith) rest)
  ]
]

-- an id is odd or even

odd_or_even : (r : ℕ) → r < 2 → (r == 1) ≡ not (r == 0)
odd_or_even r less = elim (cases_lt r 1) [
  | inl none ↦ ap (λ r. r == 1) {y = 0} (omega arith) ∙ sym (ap (λ r. not (r == 0)) {y = 0} (omega arith))
  | inr one ↦ ap (λ r. r == 1) {y = 1} (omega arith) ∙ sym (ap (λ r. not (r == 0)) {y = 1} (omega arith))
]

not_not : (b : Bool) → not (not b) ≡ b
not_not true = refl
not_not false = refl

parity_turned : (g : Bool) (id : ℕ) → has_parity (if g then Odd else Even) id ≡ not (has_parity (if not g then Odd else Even) id)
parity_turned true id = odd_or_even (id % 2) (mod-lt id (omega arith))
parity_turned false id = sym (ap not (odd_or_even (id % 2) (mod-lt id (omega arith))) ∙ not_not ((id % 2) == 0))

pub other_parity : (own peer : List ℕ) (id : ℕ) → length own ≡ length peer → bytes_eq own peer ≡ false → has_parity (party_by own peer) id ≡ not (has_parity (party_by peer own) id)
other_parity own peer id long e =
    let turned : is_greater peer own ≡ not (is_greater own peer) = sym (ap not (greater_turned own peer long e) ∙ not_not (is_greater peer own)) in
    parity_turned (is_greater own peer) id ∙ sym (ap (λ g. not (has_parity (if g then Odd else Even) id)) turned)

-- the ids that an end draws are its own

drawn_parity : (g : Bool) (k : ℕ) → has_parity (if g then Odd else Even) (own_id (if g then Odd else Even) (k + 1)) ≡ true
drawn_parity true k = eq-eqb ((2 * (k + 1) - 1) % 2) 1 (ap (λ n. n % 2) {y = k * 2 + 1} (omega arith) ∙ mod-mul-add k 2 1 (omega arith))
drawn_parity false k = eq-eqb ((2 * (k + 1)) % 2) 0 (mul-mod_right 2 (k + 1))

pub own_parity : (own peer : List ℕ) (k : ℕ) → has_parity (party_by own peer) (own_id (party_by own peer) (k + 1)) ≡ true
own_parity own peer k = drawn_parity (is_greater own peer) k
