-- A reading stops at the first token that breaks a rule.
use Rattle.std.proofs.Common.{◌≡◌, ℕ, ◌+◌, ◌-◌, ◌≤◌, Bool, true, false, cond, ltb, List, [], ◌∷◌, length, take, drop, Option, Some, None, Result, Ok, Err, refl, ap, subst, ◌∙◌, arith, length-drop, ◌⊎◌, inl, inr}
use Rattle.std.specs.Prelude.{ℤ, pos, negsuc, is_some}
use Rattle.std.specs.Int.{Width, byte_len, from_be_bytes, cast_signed}
use Rattle.std.proofs.lemmas.Bool.{ltb-false}
use Rattle.wire_base.specs.Head.{Kind, whole_head, unsigned, signed, str, bin, array, map, refused, kind_of, read_kind}
use Rattle.wire_base.specs.declared.token.TokenHead.{TokenHead}
use Rattle.wire_base.specs.declared.token.TokenHead.TheVariants as token
use Rattle.wire_base.specs.declared.token.HeadStep.{HeadStep}
use Rattle.wire_base.specs.declared.token.HeadStep.TheVariants as step
use Rattle.wire_base.specs.declared.reason.Reason.{Reason}
use Rattle.wire_base.specs.declared.reading.Fault.{Fault}
use Rattle.wire_base.specs.declared.reading.Fault.TheVariants.{Ends, Breaks}
use Rattle.wire_base.specs.Tokens.{Reading, Reader, follow, done, Sort, a_number, allowed, headed, head_at, token_at, inside, inner_at, field_at}
use Rattle.wire_base.specs.Front.{Broken, front_of}
use Rattle.wire_base.specs.Rules.{Due, Judged, passes, cut, breaks, judged_head, by_first, judged, closed, Refusal, further, behind, natural, field_judged}
use Rattle.wire_base.proofs.HeadLemmas.{head_within, numbered_not_refused}
use Rattle.wire_base.proofs.TokenSorts.{IsSort}
use Rattle.wire_base.proofs.TokenWithin.{tested}

-- of so many bytes, the first token that breaks a rule is where the reading stopped, if it stopped at one
abbrev pub IsRefused : {A : Type 0} → ℕ → Result A Fault → Refusal → Type 0
IsRefused total (Ok x) q = q ≡ None
IsRefused total (Err Ends) q = q ≡ None
IsRefused total (Err (Breaks left reason)) q = (left ≤ total) × (q ≡ Some (total - left, reason))

pub at_offset : (m n : ℕ) (reason : Reason) → m ≡ n → (let q : Refusal = Some (m, reason) in q) ≡ Some (n, reason)
at_offset m n reason e = ap (λ k. let q : Refusal = Some (k, reason) in q) e

pub lifted : {A : Type 0} (n total sub : ℕ) (r : Result A Fault) (q : Refusal) → total ≡ n + sub → IsRefused sub r q → IsRefused total r (further n q)
lifted n total sub (Ok x) q e h = rw h refl
lifted n total sub (Err Ends) q e h = rw h refl
lifted n total sub (Err (Breaks left reason)) q e h = (omega (arith, e, h.0), rw h.1 (at_offset (n + (sub - left)) (total - left) reason (omega (arith, e, h.0))))

-- what was read where something was due
abbrev pub Step : {X B : Type 0} → (X → B → Type 0) → List ℕ → Judged X → Reading B → Type 0
Step {X} {B} means bytes (passes x n) r = (y : B) × means x y × (n ≤ length bytes) × (r ≡ Ok (y, drop n bytes))
Step means bytes cut r = r ≡ Err Ends
Step means bytes (breaks reason) r = r ≡ Err (Breaks (length bytes) reason)

pub step-then : {X B C D : Type 0} (wrap : Reading C → Result D Fault) (means : X → B → Type 0) (bytes : List ℕ) (j : Judged X) (r : Reading B) (next : B → Reader C) (rule : X → List ℕ → Refusal) → ((f : Fault) → wrap (Err f) ≡ Err f) → Step means bytes j r
    → ((x : X) (y : B) → means x y → (rest : List ℕ) → IsRefused (length rest) (wrap (next y rest)) (rule x rest)) → IsRefused (length bytes) (wrap (follow r next)) (behind j rule bytes)
step-then wrap means bytes (passes x n) r next rule fails s h =
    rw s.3 (lifted n (length bytes) (length (drop n bytes)) (wrap (next s.0 (drop n bytes))) (rule x (drop n bytes)) (omega (arith, s.2, length-drop n bytes)) (h x s.0 s.1 (drop n bytes)))
step-then wrap means bytes cut r next rule fails s h = rw s (rw (fails Ends) refl)
step-then wrap means bytes (breaks reason) r next rule fails s h = rw s (rw (fails (Breaks (length bytes) reason)) (omega arith, at_offset 0 (length bytes - length bytes) reason (omega arith)))

pub inside-step : {X B : Type 0} (means : X → B → Type 0) (bytes : List ℕ) (j : Judged X) (r : Reading B) (reason : Reason) → Step means bytes j r → Step means bytes (closed reason j) (inside (length bytes) reason r)
inside-step means bytes (passes x n) r reason s = (s.0, s.1, s.2, ap (λ t. inside (length bytes) reason t) s.3)
inside-step means bytes cut r reason s = ap (λ t. inside (length bytes) reason t) s
inside-step means bytes (breaks other) r reason s = ap (λ t. inside (length bytes) reason t) s

-- ---- tokens

pub seen : {A : Type 0} (o : Option A) → (o ≡ None) ⊎ ((x : A) × (o ≡ Some x))
seen None = inl refl
seen (Some x) = inr (x, refl)

abbrev pub then_make : {A B : Type 0} → Option A → (A → Option B) → Option B
then_make None make = None
then_make (Some x) make = make x

-- what a head says, and what is made of it
abbrev pub meant : {A B : Type 0} → Sort A → (A → Option B) → TokenHead → Option B
meant sort make h = then_make (sort.says h) make

-- the rules of a token that is due are those of its reader
pub record IsDue {A B : Type 0} (sort : Sort A) (make : A → Option B) (due : Due) : Type 0 where
  pub begins : (k : Kind) → due.begins k ≡ sort.begins k
  pub says : (h : TokenHead) → due.may_say h ≡ is_some (meant sort make h)
  pub own : (k : Kind) (rest : List ℕ) (h : TokenHead) (n : ℕ) → sort.begins k ≡ true → read_kind k rest ≡ step.Got h n → sort.says h ≡ None → due.other ≡ due.wrong

module _ {A B : Type 0} (sort : Sort A) (make : A → Option B) (due : Due) (is : IsDue sort make due) (is_sort : IsSort sort) where
  abbrev Means : TokenHead → B → Type 0
  Means h y = meant sort make h ≡ Some y

  got-step : (bytes : List ℕ) (h : TokenHead) (n : ℕ) → n ≤ length bytes → (sort.says h ≡ None → due.other ≡ due.wrong) → Step Means bytes (cond (due.may_say h) (passes h n) (breaks due.wrong)) (follow (allowed (length bytes) due.other (sort.says h) (drop n bytes)) (λ x. allowed (length bytes) due.wrong (make x)))
  got-step bytes h n le own = elim (seen (sort.says h)) [
    | inl e ↦ rw (is.says h, e) (ap (λ r. Err (Breaks (length bytes) r)) (own e))
    | inr p ↦ elim (seen (make p.0)) [
      | inl f ↦ rw (is.says h, p.1, f) refl
      | inr q ↦ rw (is.says h, p.1, q.1) (q.0, ap (λ o. then_make o make) p.1 ∙ q.1, le, refl)
    ]
  ]

  kind-step : (b : ℕ) (rest : List ℕ) (k : Kind) (s : HeadStep) → kind_of b ≡ k → read_kind k rest ≡ s → ((r : Reason) → s ≡ step.Refused r → ⊥) → Step Means (b ∷ rest) (cond (due.begins k) (judged_head due s) (breaks due.other)) (follow (headed sort due.other s (b ∷ rest)) (λ x. allowed (length (b ∷ rest)) due.wrong (make x)))
  kind-step b rest k step.Short kk e never = rw (kk, is.begins k) (elim (sort.begins k) as (λ t. Step Means (b ∷ rest) (cond t cut (breaks due.other)) (follow (cond t (Err Ends) (Err (Breaks (length (b ∷ rest)) due.other))) (λ x. allowed (length (b ∷ rest)) due.wrong (make x)))) [ true ↦ refl | false ↦ refl ])
  kind-step b rest k (step.Refused r) kk e never = absurd (never r refl)
  kind-step b rest k (step.Got h n) kk e never =
      let within = head_within (b ∷ rest) h n (ap (λ k. read_kind k rest) kk ∙ e) in
      elim (tested (sort.begins k)) [
        | inl t ↦ rw (is.begins k, t) (got-step (b ∷ rest) h n within.1 (is.own k rest h n t e))
        | inr t ↦ rw (is.begins k, t, is_sort.others k rest h n t e) refl
      ]

  any-kind : (b : ℕ) (rest : List ℕ) (k : Kind) → kind_of b ≡ k → Step Means (b ∷ rest) (by_first due k (judged_head due (read_kind k rest))) (follow (headed sort due.other (read_kind k rest) (b ∷ rest)) (λ x. allowed (length (b ∷ rest)) due.wrong (make x)))
  any-kind b rest (refused r) kk = refl
  any-kind b rest (whole_head g) kk = kind-step b rest (whole_head g) (read_kind (whole_head g) rest) kk refl (λ r e. cc)
  any-kind b rest (unsigned w) kk = kind-step b rest (unsigned w) (read_kind (unsigned w) rest) kk refl (λ r e. numbered_not_refused w (λ n. token.Whole (pos n)) rest r e)
  any-kind b rest (signed w) kk = kind-step b rest (signed w) (read_kind (signed w) rest) kk refl (λ r e. numbered_not_refused w (λ n. token.Whole (cast_signed w n)) rest r e)
  any-kind b rest (str w) kk = kind-step b rest (str w) (read_kind (str w) rest) kk refl (λ r e. numbered_not_refused w (λ n. token.Str n) rest r e)
  any-kind b rest (bin w) kk = kind-step b rest (bin w) (read_kind (bin w) rest) kk refl (λ r e. numbered_not_refused w (λ n. token.Bin n) rest r e)
  any-kind b rest (array w) kk = kind-step b rest (array w) (read_kind (array w) rest) kk refl (λ r e. numbered_not_refused w (λ n. token.Array n) rest r e)
  any-kind b rest (map w) kk = kind-step b rest (map w) (read_kind (map w) rest) kk refl (λ r e. numbered_not_refused w (λ n. token.Map n) rest r e)

  pub head-step : (bytes : List ℕ) → Step (λ h y. meant sort make h ≡ Some y) bytes (judged due bytes) (follow (head_at sort due.other bytes) (λ x. allowed (length bytes) due.wrong (make x)))
  unfolding judged head_at
  head-step [] = refl
  head-step (b ∷ rest) = any-kind b rest (kind_of b) refl

  pub token-step : due.wrong ≡ due.other → (bytes : List ℕ) → Step (λ h y. meant sort make h ≡ Some y) bytes (judged due bytes) (token_at sort make due.other bytes)
  unfolding token_at
  token-step same bytes = subst (λ r. Step (λ h y. meant sort make h ≡ Some y) bytes (judged due bytes) (follow (head_at sort due.other bytes) (λ x. allowed (length bytes) r (make x)))) same (head-step bytes)

  pub inner-step : due.wrong ≡ due.other → (bytes : List ℕ) → Step (λ h y. meant sort make h ≡ Some y) bytes (closed due.other (judged due bytes)) (inner_at sort make due.other bytes)
  unfolding inner_at
  inner-step same bytes = inside-step (λ h y. meant sort make h ≡ Some y) bytes (judged due bytes) (token_at sort make due.other bytes) due.other (token-step same bytes)

-- ---- tests of what is said

pub some_if : {A : Type 0} (t : Bool) (x : A) → t ≡ is_some (cond t (Some x) None)
some_if true x = refl
some_if false x = refl

-- a number that passes a test is made into something, and no other
pub number_says : {B : Type 0} (test : ℕ → Bool) (make : ℤ → Option B) → ((n : ℕ) → test n ≡ is_some (make (pos n))) → ((k : ℕ) → make (negsuc k) ≡ None) → (h : TokenHead) → natural test h ≡ is_some (meant a_number make h)
number_says test make some none (token.Whole (pos n)) = some n
number_says test make some none (token.Whole (negsuc k)) = rw (none k) refl
number_says test make some none token.Nil = refl
number_says test make some none (token.Flag v) = refl
number_says test make some none (token.Str n) = refl
number_says test make some none (token.Bin n) = refl
number_says test make some none (token.Array n) = refl
number_says test make some none (token.Map n) = refl

-- ---- fields of a fixed width

pub field-step : {B : Type 0} (w : Width) (test : ℕ → Bool) (make : ℕ → Option B) (reason : Reason) → ((n : ℕ) → test n ≡ is_some (make n)) → (bytes : List ℕ) → Step (λ n y. make n ≡ Some y) bytes (field_judged w test reason bytes) (field_at w make reason bytes)
unfolding field_at
field-step w test make reason says bytes =
    let n = from_be_bytes w (take (byte_len w) bytes) in
    elim (tested (ltb (length bytes) (byte_len w))) [
      | inl t ↦ rw t refl
      | inr t ↦
          let long : byte_len w ≤ length bytes = ltb-false (length bytes) (byte_len w) t in
          elim (seen (make n)) [
            | inl e ↦ rw (t, says n, e) refl
            | inr p ↦ rw (t, says n, p.1) (p.0, p.1, long, refl)
          ]
    ]

-- ---- steps in a row

pub follow-assoc : {A B C : Type 0} (r : Reading A) (f : A → Reader B) (g : B → Reader C) → follow (follow r f) g ≡ follow r (λ x bytes. follow (f x bytes) g)
follow-assoc (Ok x) f g = refl
follow-assoc (Err fault) f g = refl

pub done-refused : {A B : Type 0} (total : ℕ) (r : Reading A) (f : A → B) (q : Refusal) → IsRefused total r q → IsRefused total (follow r (λ x. done (f x))) q
done-refused total (Ok x) f q h = h
done-refused total (Err Ends) f q h = h
done-refused total (Err (Breaks left reason)) f q h = h

-- ---- the front

some_is : {A : Type 0} (x y : A) → Some x ≡ Some y → x ≡ y
some_is x y e = cc

pair_is : (m n : ℕ) (r s : Reason) → (let q : Refusal = Some (m, r) in q) ≡ Some (n, s) → (m ≡ n) × (r ≡ s)
pair_is m n r s e =
    let p : (let x : ℕ × Reason = (m, r) in x) ≡ (n, s) = some_is (m, r) (n, s) e in
    (ap (λ (x : ℕ × Reason). x.0) p, ap (λ (x : ℕ × Reason). x.1) p)

pub front_of-refused : {A : Type 0} (total : ℕ) (r : Reading A) (q : Refusal) (offset : ℕ) (reason : Reason) → IsRefused total r q → front_of total r ≡ Broken offset reason → q ≡ Some (offset, reason)
front_of-refused total (Ok x) q offset reason h e = absurd cc
front_of-refused total (Err Ends) q offset reason h e = absurd cc
front_of-refused total (Err (Breaks left other)) q offset reason h e =
    let there : total - left ≡ offset = cc in
    let same : other ≡ reason = cc in
    rw (← there, ← same) h.1

pub refused-front_of : {A : Type 0} (total : ℕ) (r : Reading A) (q : Refusal) (offset : ℕ) (reason : Reason) → IsRefused total r q → q ≡ Some (offset, reason) → front_of total r ≡ Broken offset reason
refused-front_of total (Ok x) q offset reason h e = absurd cc
refused-front_of total (Err Ends) q offset reason h e = absurd cc
refused-front_of total (Err (Breaks left other)) q offset reason h e =
    let p = pair_is (total - left) offset other reason (rw h.1 at e) in
    rw (p.0, p.1) refl
