-- What reading gives, by the spellings and by the rules on tokens.
use Rattle.std.proofs.Common.{◌≡◌, ℕ, ◌+◌, ◌-◌, ◌≤◌, List, [], ◌∷◌, ◌++◌, length, take, drop, Result, Ok, Err, refl, sym, ap, subst, ◌∙◌, arith, length-append, length-drop}
use Rattle.std.proofs.lemmas.List.{take_at, take-append-drop}
use Rattle.wire_base.specs.Tree.{Tree}
use Rattle.wire_base.specs.declared.reason.Reason.{Reason}
use Rattle.wire_base.specs.declared.reading.Fault.{Fault}
use Rattle.wire_base.specs.declared.reading.Fault.TheVariants.{Ends, Breaks}
use Rattle.wire_base.specs.declared.reading.DecodeError.{DecodeError}
use Rattle.wire_base.specs.declared.reading.DecodeError.TheVariants as errors
use Rattle.pack_value.specs.declared.step.Step.{Step}
use Rattle.pack_value.specs.declared.step.Step.TheVariants as step
use Rattle.wire_base.specs.Values.{max_nesting}
use Rattle.pack_value.specs.Spelling.{IsSpelling}
use Rattle.pack_value.specs.Tokens.{value, IsRefused}
use Rattle.wire_base.specs.Tokens.{Reading, Fails}
use Rattle.wire_base.specs.Front.{front_of}
use Rattle.pack_value.specs.Reading.{value_at}
use Rattle.pack_value.specs.Answer.{Front, Whole, Short, Broken, front, step_of, Answers, IfGot, IfRefused, IfShort, IsAtFront, IsUndecided}
use Rattle.pack_value.proofs.Found.{value_found}
use Rattle.pack_value.proofs.Again.{value_again}
use Rattle.pack_value.proofs.Follows.{Follows, follows_value}
use Rattle.pack_value.proofs.Settled.{not_reached, not_short, same_break, broken_at}

follows : (bytes : List ℕ) (r : Reading Tree) → value_at max_nesting bytes ≡ r → Follows (value max_nesting ∷ []) bytes r
follows bytes r e = subst (λ x. Follows (value max_nesting ∷ []) bytes x) e (follows_value max_nesting bytes)

read_if_spelled : (bytes : List ℕ) (t : Tree) (n : ℕ) → IsAtFront bytes t n → value_at max_nesting bytes ≡ Ok (t, drop n bytes)
read_if_spelled bytes t n p =
    ap (λ (b : List ℕ). value_at max_nesting b) (sym (take-append-drop n bytes)) ∙ value_again t max_nesting (take n bytes) (drop n bytes) p.1.spelled p.1.nests

pub rest_within : (bytes : List ℕ) (x : Tree × List ℕ) → value_at max_nesting bytes ≡ Ok x → length x.1 ≤ length bytes
rest_within bytes x e =
    let p = value_found max_nesting bytes x e in
    omega (arith, ap length p.parts, length-append p.front x.1)

pub left_within : (bytes : List ℕ) (r : Reason) (left : ℕ) → value_at max_nesting bytes ≡ Err (Breaks left r) → left ≤ length bytes
left_within bytes r left e =
    let b = broken_at (value max_nesting ∷ []) bytes r left (follows bytes (Err (Breaks left r)) e []) in
    omega (arith, b.sum)

abbrev pub Meets : List ℕ → Front Tree → Type 0
Meets bytes (Whole t n) = IsAtFront bytes t n
Meets bytes Short = IsUndecided bytes
Meets bytes (Broken k r) = IsRefused bytes k r

meets : (bytes : List ℕ) (r : Reading Tree) → value_at max_nesting bytes ≡ r → Meets bytes (front_of (length bytes) r)
meets bytes (Ok x) e =
    let p = value_found max_nesting bytes x e in
    let n : length bytes - length x.1 ≡ length p.front = omega (arith, ap length p.parts, length-append p.front x.1) in
    let same : take (length bytes - length x.1) bytes ≡ p.front = rw n (ap (λ (b : List ℕ). take (length p.front) b) p.parts ∙ take_at p.front x.1 (length p.front) refl) in
    (omega arith, rw same (record { spelled = p.spells; nests = p.nests }))
meets bytes (Err Ends) e = (
  λ t n p. let r = read_if_spelled bytes t n p in absurd cc,
  λ k r p. not_short (value max_nesting ∷ []) bytes (follows bytes (Err Ends) e []) p.0 k r p.1,
)
meets bytes (Err (Breaks left r)) e =
    let b = broken_at (value max_nesting ∷ []) bytes r left (follows bytes (Err (Breaks left r)) e []) in
    let k : length bytes - left ≡ b.after = omega (arith, b.sum) in
    rw k (b.turns, b.breaks)

pub front_is : (bytes : List ℕ) (r : Reading Tree) → value_at max_nesting bytes ≡ r → front bytes ≡ front_of (length bytes) r
unfolding front
front_is bytes r e = ap (front_of (length bytes)) e

pub failed : {Y : Type 0} (e : DecodeError) (g f : Fault) (read : Result Y Fault) → e ≡ errors.Fault g → g ≡ f → Fails e read → read ≡ Err f
failed errors.Memory g f read is same e = absurd cc
failed (errors.Fault h) g f read is same e = let all : h ≡ f = cc in rw (← all) e

pub front_meets : (bytes : List ℕ) → Meets bytes (front bytes)
unfolding front
front_meets bytes = meets bytes (value_at max_nesting bytes) refl

pub front_if_spelled : (bytes : List ℕ) (t : Tree) (n : ℕ) → IsAtFront bytes t n → front bytes ≡ Whole t n
unfolding front
front_if_spelled bytes t n p =
    let k : length bytes - length (drop n bytes) ≡ n = omega (arith, length-drop n bytes, p.0) in
    ap (front_of (length bytes)) (read_if_spelled bytes t n p) ∙ ap (Whole t) k

broken_front : (bytes : List ℕ) (k : ℕ) (r : Reason) → IsRefused bytes k r → (x : Reading Tree) → value_at max_nesting bytes ≡ x → front_of (length bytes) x ≡ Broken k r
broken_front bytes k r p (Ok x) e = absurd (not_reached (value max_nesting ∷ []) bytes x.1 (follows bytes (Ok x) e []) p.0 k r p.1)
broken_front bytes k r p (Err Ends) e = absurd (not_short (value max_nesting ∷ []) bytes (follows bytes (Err Ends) e []) p.0 k r p.1)
broken_front bytes k r p (Err (Breaks left s)) e =
    let same = same_break (value max_nesting ∷ []) bytes s left (follows bytes (Err (Breaks left s)) e []) p.0 k r p.1 in
    let at : length bytes - left ≡ k = omega (arith, same.1) in
    rw (at, same.0) refl

pub front_if_refused : (bytes : List ℕ) (k : ℕ) (r : Reason) → IsRefused bytes k r → front bytes ≡ Broken k r
unfolding front
front_if_refused bytes k r p = broken_front bytes k r p (value_at max_nesting bytes) refl

pub at_front : (t : Tree) (b rest bytes : List ℕ) → IsSpelling t b → bytes ≡ b ++ rest → IsAtFront bytes t (length b)
at_front t b rest bytes p e = (
  omega (arith, ap length e, length-append b rest),
  subst (λ (x : List ℕ). IsSpelling t x) (sym (ap (λ (x : List ℕ). take (length b) x) e ∙ take_at b rest (length b) refl)) p,
)

-- ---- the clauses of decoding

answered_got : (s : Step) (bytes : List ℕ) (at : ℕ) (f : Front Tree) → Meets bytes f → Answers s (step_of at f) → IfGot s (IsAtFront bytes)
answered_got (step.Got t n) bytes at (Whole u m) p e = let t_is : u ≡ t = cc in let n_is : m ≡ n = cc in rw (← t_is, ← n_is) p
answered_got (step.Got t n) bytes at Short p e = absurd cc
answered_got (step.Got t n) bytes at (Broken k r) p e = absurd cc
answered_got step.Short bytes at f p e = tt
answered_got (step.Refused q r) bytes at f p e = tt
answered_got step.OutOfMemory bytes at f p e = tt

abbrev place_of : Step → ℕ
place_of (step.Refused q r) = q.0
place_of s = 0

answered_refused : (s : Step) (bytes : List ℕ) (at : ℕ) (f : Front Tree) → Meets bytes f → Answers s (step_of at f) → IfRefused s (λ p r. (k : ℕ) × (p ≡ at + k) × IsRefused bytes k r)
answered_refused (step.Refused q r) bytes at (Whole u m) p e = absurd cc
answered_refused (step.Refused q r) bytes at Short p e = absurd cc
answered_refused (step.Refused q r) bytes at (Broken k s) p e = let same : s ≡ r = cc in (k, ap (λ (a : Step). place_of a) e, rw (← same) p)
answered_refused (step.Got t n) bytes at f p e = tt
answered_refused step.Short bytes at f p e = tt
answered_refused step.OutOfMemory bytes at f p e = tt

answered_short : (s : Step) (bytes : List ℕ) (at : ℕ) (f : Front Tree) → Meets bytes f → Answers s (step_of at f) → IfShort s (IsUndecided bytes)
answered_short step.Short bytes at (Whole u m) p e = absurd cc
answered_short step.Short bytes at Short p e = p
answered_short step.Short bytes at (Broken k s) p e = absurd cc
answered_short (step.Got t n) bytes at f p e = tt
answered_short (step.Refused q r) bytes at f p e = tt
answered_short step.OutOfMemory bytes at f p e = tt

module _ (s : Step) (bytes : List ℕ) (at : ℕ) (e : Answers s (step_of at (front bytes))) where
  pub is_got : IfGot s (IsAtFront bytes)
  is_got = answered_got s bytes at (front bytes) (front_meets bytes) e

  pub is_refused : IfRefused s (λ p r. (k : ℕ) × (p ≡ at + k) × IsRefused bytes k r)
  is_refused = answered_refused s bytes at (front bytes) (front_meets bytes) e

  pub is_short : IfShort s (IsUndecided bytes)
  is_short = answered_short s bytes at (front bytes) (front_meets bytes) e

  pub gets : (t : Tree) (b rest : List ℕ) → IsSpelling t b → bytes ≡ b ++ rest → Answers s (step.Got t (length b))
  gets t b rest p parts = subst (λ f. Answers s (step_of at f)) (front_if_spelled bytes t (length b) (at_front t b rest bytes p parts)) e

  pub refuses : (k : ℕ) (r : Reason) → IsRefused bytes k r → Answers s (step.Refused (record { 0 = at + k }) r)
  refuses k r p = subst (λ f. Answers s (step_of at f)) (front_if_refused bytes k r p) e
