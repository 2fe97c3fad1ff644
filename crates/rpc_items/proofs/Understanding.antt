-- What one end says with a method of its own is what the other reads.
use Rattle.std.specs.Prelude.{if◌then◌else◌, not, ◌&&◌, Bool, true, false, ◌==◌, nat_lt, nat_le, codes, zero, suc, ◌^◌, ◌/◌, ◌%◌}
use Rattle.std.specs.Fmt.{decimal, digits, digits_onto, digit_glyph}
use Rattle.std.proofs.Common.{◌≡◌, ℕ, ◌+◌, ◌-◌, ◌*◌, ◌<◌, ◌≤◌, List, [], ◌∷◌, ◌++◌, refl, ◌∙◌, ap, arith, Some, None, le-leb}
use Rattle.std.proofs.lemmas.Bool.{lt-ltb}
use Rattle.std.proofs.lemmas.Bool.Decides.{nat_tests, Decides-eqb}
use Rattle.std.proofs.Math.Nat.{pow-suc}
use Rattle.wire_base.specs.Tree as tree
use Rattle.wire_base.specs.Tree.{Tree}
use Rattle.wire_base.specs.declared.text.Id.{Id}
use Rattle.rpc_items.specs.declared.calls.HandleKey.{HandleKey}
use Rattle.rpc_items.specs.declared.messages.Params.{Params}
use Rattle.rpc_items.specs.declared.messages.Params.TheVariants.{Named}
use Rattle.rpc_items.specs.Ids.{whole_bound, numbered_id, id_in, id_value, count_value}
use Rattle.rpc_items.specs.Keys.{other_side}
use Rattle.rpc_items.specs.Methods.{cancel_request, progress, next_page, abort_pages, release_object, proxy_method}
use Rattle.rpc_items.specs.declared.methods.Meaning.TheVariants.{Cancels, Reports, Turns, Aborts, Releases, Calls, Mistakes, Unknown}
use Rattle.rpc_items.specs.Meanings.{cancels_by, reports_by, turns_by, aborts_by, calls_by, meaning}

pub cancels : (n : ℕ) → n < whole_bound → meaning cancel_request (Named ((codes "id", count_value n) ∷ [])) ≡ Cancels (numbered_id n)
cancels n l = ap (λ b. cancels_by (if b then Some (numbered_id n) else None)) (lt-ltb n whole_bound l)

pub reports : (token : Id) (value : Tree) → id_in (id_value token) ≡ Some token → meaning progress (Named ((codes "token", id_value token) ∷ (codes "value", value) ∷ [])) ≡ Reports token value
reports token value e = ap (λ o. reports_by o (Some value)) e

pub turns : (token : Id) → id_in (id_value token) ≡ Some token → meaning next_page (Named ((codes "token", id_value token) ∷ [])) ≡ Turns token
turns token e = ap turns_by e

pub aborts : (token : Id) → id_in (id_value token) ≡ Some token → meaning abort_pages (Named ((codes "token", id_value token) ∷ [])) ≡ Aborts token
aborts token e = ap aborts_by e

pub releases : (key : HandleKey) → key.number < whole_bound
    → meaning release_object (Named ((codes "handle", count_value key.number) ∷ (codes "ownedBySender", tree.flag key.own) ∷ [])) ≡ Releases (other_side key)
releases key l = ap (λ b. if b then Releases (record { number = key.number; own = not key.own }) else Mistakes) (lt-ltb key.number whole_bound l)

-- a handle in a method

glyph : (d : ℕ) → d < 10 → digit_glyph false d ≡ 48 + d
glyph d l = ap (λ b. if b then 48 + d else 87 + d) (lt-ltb d 10 l)

-- one more digit
digit_read : (number count d : ℕ) (s : List ℕ) → d < 10 → count < 19 → calls_by number count ((48 + d) ∷ s) ≡ calls_by (number * 10 + d) (count + 1) s
digit_read number count d s l c = by (48 + d == 47) (nat_le 48 (48 + d)) (nat_le (48 + d) 57) (nat_lt count 19) (not_slash) (le-leb 48 (48 + d) (omega arith)) (le-leb (48 + d) 57 (omega (arith, l))) (lt-ltb count 19 c)
  where
    not_slash : (48 + d == 47) ≡ false
    not_slash = grind (arith, nat_tests)

    by : (a b e f : Bool) → a ≡ false → b ≡ true → e ≡ true → f ≡ true
        → (if a then (if nat_lt 0 count then Calls number s else Unknown) else if b && e && f then calls_by (number * 10 + (48 + d - 48)) (count + 1) s else Unknown) ≡ calls_by (number * 10 + d) (count + 1) s
    by true b e f p q r t = absurd (cc p)
    by false false e f p q r t = absurd (cc q)
    by false true false f p q r t = absurd (cc r)
    by false true true false p q r t = absurd (cc t)
    by false true true true p q r t = ap (λ k. calls_by k (count + 1) s) (omega arith)

-- the digits of n, at most so many, are read as n
abbrev pub ReadAs : (k n most : ℕ) → Type 0
ReadAs k n most = (c : ℕ) × (0 < c) × (c ≤ most) × ((acc s : List ℕ) → calls_by 0 0 (digits_onto k 10 false n acc ++ s) ≡ calls_by n c (acc ++ s))

some_place : (e m : ℕ) → m < 10 ^ e → 0 < m → 0 < e
some_place zero m l p = absurd (omega (arith, l, p))
some_place (suc e) m l p = omega arith

digits_read : (k d n : ℕ) → n < 10 ^ d → 0 < d → d ≤ k → d ≤ 19 → ReadAs k n d
digits_read zero d n l p q r = absurd (omega (arith, p, q))
digits_read (suc k) zero n l p q r = absurd (omega (arith, p))
digits_read (suc k) (suc e) n l p q r = by (n / 10 == 0) refl (digits_read k e (n / 10))
  where
    small : n % 10 < 10
    small = omega arith

    by : (b : Bool) → (n / 10 == 0) ≡ b → (n / 10 < 10 ^ e → 0 < e → e ≤ k → e ≤ 19 → ReadAs k (n / 10) e)
        → (c : ℕ) × (0 < c) × (c ≤ suc e) × ((acc s : List ℕ) → calls_by 0 0 ((if b then digit_glyph false (n % 10) ∷ acc else digits_onto k 10 false (n / 10) (digit_glyph false (n % 10) ∷ acc)) ++ s) ≡ calls_by n c (acc ++ s))
    by true h ih =
        let none : n / 10 ≡ 0 = (Decides-eqb (n / 10) 0).0 h in
        let same : 0 * 10 + n % 10 ≡ n = omega (arith, none) in
        (1, omega arith, omega arith, λ acc s. ap (λ g. calls_by 0 0 (g ∷ (acc ++ s))) (glyph (n % 10) small) ∙ (digit_read 0 0 (n % 10) (acc ++ s) small (omega arith) ∙ ap (λ m. calls_by m 1 (acc ++ s)) same))
    by false h ih =
        let some : 0 < n / 10 = grind (arith, nat_tests, h) in
        let less : n / 10 < 10 ^ e = omega (arith, l, pow-suc 10 e) in
        let on = ih less (some_place e (n / 10) less some) (omega (arith, q)) (omega (arith, r)) in
        let same : n / 10 * 10 + n % 10 ≡ n = omega arith in (
          on.0 + 1,
          omega arith,
          omega (arith, on.2),
          λ acc s. on.3 (digit_glyph false (n % 10) ∷ acc) s
              ∙ (ap (λ g. calls_by (n / 10) on.0 (g ∷ (acc ++ s))) (glyph (n % 10) small)
              ∙ (digit_read (n / 10) on.0 (n % 10) (acc ++ s) small (omega (arith, on.2, r)) ∙ ap (λ m. calls_by m (on.0 + 1) (acc ++ s)) same)),
        )

slash_read : (n c : ℕ) (method : List ℕ) → 0 < c → calls_by n c (47 ∷ method) ≡ Calls n method
slash_read n c method p = ap (λ b. if b then Calls n method else Unknown) (lt-ltb 0 c p)

handle_read : (n : ℕ) (method : List ℕ) → n < 10 ^ 19 → calls_by 0 0 (decimal n ++ (47 ∷ method)) ≡ Calls n method
unfolding digits
handle_read n method l =
    let read = digits_read 64 19 n l (omega arith) (omega arith) (omega arith) in
    read.3 [] (47 ∷ method) ∙ slash_read n read.0 method read.1

pub calls : (handle : ℕ) (method : List ℕ) (params : Params) → handle < whole_bound → meaning (proxy_method handle method) params ≡ Calls handle method
calls handle method params l = handle_read handle method (omega (arith, l))
