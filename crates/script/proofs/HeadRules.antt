-- The first line that breaks a rule of the head.
use Rattle.std.proofs.Common.{◌≡◌, ◌≢◌, ℕ, ◌+◌, ◌≤◌, ◌⊎◌, inl, inr, Bool, true, false, List, [], ◌∷◌, ◌++◌, length, length-append, map, refl, sym, ap, ap₂, subst, ◌∙◌, codes, arith, append_assoc}
use Rattle.std.specs.Prelude.{if◌then◌else◌}
use Rattle.std.specs.List.{list_all}
use Rattle.std.specs.Str.{is_utf8}
use Rattle.std.proofs.lemmas.Bool.{and_parts}
use Rattle.std.proofs.lemmas.List.{append-nil}
use Rattle.std.proofs.lemmas.List.Folds.{list_all-append}
use Rattle.mux_run.specs.Run.{Terms}
use Rattle.mux_run.specs.declared.steps.Side.TheVariants.{A, B}
use Rattle.text_words.specs.Written.{is_line_text, stands_in_line}
use Rattle.text_words.proofs.ByteTests.{not_both}
use Rattle.script.specs.declared.reason.ScriptReason.{ScriptReason}
use Rattle.script.specs.declared.reason.ScriptReason.TheVariants as reason
use Rattle.script.specs.Lines.{TextLine, whole_line}
use Rattle.script.specs.Spelling.{AreTerms, has_nonces, version_line, nonce_line, head_lines}
use Rattle.script.specs.Rules.{BeginsHead, IsLineDue, BreaksHeadRule, IsHeadRefused}
use Rattle.script.proofs.HeadLines.{head_lines-texts, one_version}

-- ---- whole lines in front of two lists

-- ys begins with xs, and goes on
pub record GoesOn (xs ys : List (List ℕ)) (behind_xs behind_ys : List TextLine) : Type 0 where
  pub text : List ℕ
  pub more : List (List ℕ)
  pub is : ys ≡ xs ++ text ∷ more
  pub rest : behind_xs ≡ whole_line text ∷ (map whole_line more ++ behind_ys)

further : (x y : List ℕ) (xs ys : List (List ℕ)) (a b : List TextLine) → x ≡ y → GoesOn xs ys a b → GoesOn (x ∷ xs) (y ∷ ys) a b
further x y xs ys a b same g = record { text = g.text; more = g.more; is = ap₂ (λ z zs. z ∷ zs) (sym same) g.is; rest = g.rest }

pub compared : (xs ys : List (List ℕ)) (a b : List TextLine) → map whole_line xs ++ a ≡ map whole_line ys ++ b → GoesOn xs ys a b ⊎ GoesOn ys xs b a ⊎ ((xs ≡ ys) × (a ≡ b))
compared [] [] a b e = inr (inr (refl, e))
compared [] (y ∷ ys) a b e = inl (record { text = y; more = ys; is = refl; rest = e })
compared (x ∷ xs) [] a b e = inr (inl (record { text = x; more = xs; is = refl; rest = sym e }))
compared (x ∷ xs) (y ∷ ys) a b e =
    let first : whole_line x ≡ whole_line y = cc in
    let same : x ≡ y = ap (λ line. line.text) first in
    elim (compared xs ys a b cc) [
      | inl g ↦ inl (further x y xs ys a b same g)
      | inr (inl g) ↦ inr (inl (further y x ys xs b a (sym same) g))
      | inr (inr p) ↦ inr (inr (ap₂ (λ z zs. z ∷ zs) same p.0, p.1))
    ]

-- ---- heads

regroup : (xs more : List (List ℕ)) (x : List ℕ) → (xs ++ x ∷ []) ++ more ≡ xs ++ x ∷ more
regroup xs more x = append_assoc xs (x ∷ []) more

pub fewer : (first more : List (List ℕ)) (text : List ℕ) → BeginsHead (first ++ text ∷ more) → BeginsHead (first ++ text ∷ [])
fewer first more text h = record {
  terms = h.terms;
  later = more ++ h.later;
  terms_are = h.terms_are;
  is = h.is ∙ (append_assoc first (text ∷ more) h.later ∙ sym (regroup first (more ++ h.later) text));
}

-- a line of a head is a text
line_text : (first : List (List ℕ)) (text : List ℕ) → BeginsHead (first ++ text ∷ []) → is_utf8 text ≡ true
line_text first text h =
    let all : list_all is_line_text (first ++ text ∷ h.later) ≡ true = sym (ap (list_all is_line_text) (h.is ∙ regroup first h.later text)) ∙ head_lines-texts h.terms h.terms_are in
    let behind = and_parts (list_all is_line_text first) (list_all is_line_text (text ∷ h.later)) (sym (list_all-append is_line_text first (text ∷ h.later)) ∙ all) in
    let line = and_parts (is_line_text text) (list_all is_line_text h.later) behind.1 in
    (and_parts (is_utf8 text) (list_all stands_in_line text) line.0).0

-- a line with which a head goes on breaks no rule
breaks_none : (why : ScriptReason) (first : List (List ℕ)) (text : List ℕ) (rest : List TextLine) → BeginsHead (first ++ text ∷ []) → BreaksHeadRule why first (whole_line text ∷ rest) → ⊥
breaks_none reason.NotUtf8 first text rest h b = not_both (is_utf8 text) (line_text first text h) b
breaks_none reason.NoLineEnd first text rest h b = cc (b.1)
breaks_none reason.BadHead first text rest h b = b.1 h
breaks_none reason.UnknownStep first text rest h b = b
breaks_none reason.BadWord first text rest h b = b
breaks_none reason.BadJson first text rest h b = b
breaks_none reason.TooManySteps first text rest h b = b

-- the reason of a line that breaks a rule
abbrev reason_of : List TextLine → ScriptReason
reason_of [] = reason.BadHead
reason_of (line ∷ rest) = if is_utf8 line.text then (if line.has_end then reason.BadHead else reason.NoLineEnd) else reason.NotUtf8

breaks_one : (why : ScriptReason) (first : List (List ℕ)) (rest : List TextLine) → BreaksHeadRule why first rest → why ≡ reason_of rest
breaks_one reason.NotUtf8 first (line ∷ rest) b = rw b refl
breaks_one reason.NotUtf8 first [] b = absurd b
breaks_one reason.NoLineEnd first (line ∷ rest) b = rw (b.0, b.1) refl
breaks_one reason.NoLineEnd first [] b = absurd b
breaks_one reason.BadHead first (line ∷ rest) b = rw (b.0.0, b.0.1) refl
breaks_one reason.BadHead first [] b = refl
breaks_one reason.UnknownStep first rest b = absurd b
breaks_one reason.BadWord first rest b = absurd b
breaks_one reason.BadJson first rest b = absurd b
breaks_one reason.TooManySteps first rest b = absurd b

length-head_lines : (terms : Terms) → length (head_lines terms) ≡ (if has_nonces terms.version then 4 else 2)
length-head_lines terms = elim (has_nonces terms.version) as (λ b. length (codes "script 1" ∷ version_line terms.version ∷ (if b then nonce_line A terms.nonce_a ∷ nonce_line B terms.nonce_b ∷ [] else [])) ≡ (if b then 4 else 2)) [
  | true ↦ refl
  | false ↦ refl
]

four_most : (b : Bool) → (if b then 4 else 2) ≤ 4
four_most true = omega arith
four_most false = omega arith

-- a head goes on behind no other
ends : (terms other : Terms) (text : List ℕ) (more : List (List ℕ)) → head_lines other ≢ head_lines terms ++ text ∷ more
ends terms other text more h =
    let second : version_line other.version ≡ version_line terms.version = cc h in
    let same : length (head_lines other) ≡ length (head_lines terms) =
    length-head_lines other ∙ (ap (λ v. if has_nonces v then 4 else 2) (one_version other.version terms.version second) ∙ sym (length-head_lines terms)) in
    let longer = ap length h ∙ length-append (head_lines terms) (text ∷ more) in
    omega arith

-- ---- the first broken line

within : (first : List (List ℕ)) → IsLineDue first → length first + 1 ≤ 4
within first due =
    let head = due.1 in
    let size = ap length (head.is ∙ regroup first head.later due.0) ∙ length-append first (due.0 ∷ head.later) in
    let most = four_most (has_nonces head.terms.version) in
    let whole = length-head_lines head.terms in
    omega arith

pub refused_within : (lines : List TextLine) (number : ℕ) (why : ScriptReason) → IsHeadRefused lines number why → number ≤ 4
refused_within lines number why h =
    let most = within h.first h.due in
    let place = h.place in
    omega arith

-- the lines that begin a head and those before the first broken line don't go on behind one another
not_behind : (lines : List TextLine) (number : ℕ) (why : ScriptReason) (xs : List (List ℕ)) (a : List TextLine) (h : IsHeadRefused lines number why) → BeginsHead xs → GoesOn h.first xs h.rest a → ⊥
not_behind lines number why xs a h head g =
    let longer : BeginsHead (h.first ++ g.text ∷ g.more) = subst BeginsHead g.is head in
    let P : List TextLine → Type 0 = λ rest. BreaksHeadRule why h.first rest in
    breaks_none why h.first g.text (map whole_line g.more ++ a) (fewer h.first g.more g.text longer) (subst P g.rest h.breaks_rule)

begun : (first : List (List ℕ)) → IsLineDue first → BeginsHead first
begun first due = let head = due.1 in record { terms = head.terms; later = due.0 ∷ head.later; terms_are = head.terms_are; is = head.is ∙ regroup first head.later due.0 }

-- it is one line, for one reason
pub refused_once : (lines : List TextLine) (n m : ℕ) (why other : ScriptReason) → IsHeadRefused lines n why → IsHeadRefused lines m other → (n ≡ m) × (why ≡ other)
refused_once lines n m why other h k = elim (compared h.first k.first h.rest k.rest (sym h.is ∙ k.is)) [
  | inl g ↦ absurd (not_behind lines n why k.first k.rest h (begun k.first k.due) g)
  | inr (inl g) ↦ absurd (not_behind lines m other h.first h.rest k (begun h.first h.due) g)
  | inr (inr p) ↦ (
    h.place ∙ (ap (λ first. length first + 1) p.0 ∙ sym k.place),
    breaks_one why h.first h.rest h.breaks_rule ∙ (ap reason_of p.1 ∙ sym (breaks_one other k.first k.rest k.breaks_rule)),
  )
]

-- lines that begin with a head break none of its rules
pub refused_headless : (lines : List TextLine) (number : ℕ) (why : ScriptReason) → IsHeadRefused lines number why → (terms : Terms) (rest : List TextLine) → AreTerms terms → lines ≢ map whole_line (head_lines terms) ++ rest
refused_headless lines number why h terms rest are is =
    let due = h.due.1 in
    let whole : head_lines due.terms ≡ h.first ++ h.due.0 ∷ due.later = due.is ∙ regroup h.first due.later h.due.0 in
    elim (compared h.first (head_lines terms) h.rest rest (sym h.is ∙ is)) [
      | inl g ↦ not_behind lines number why (head_lines terms) rest h (record { terms = terms; later = []; terms_are = are; is = sym (append-nil (head_lines terms)) }) g
      | inr (inl g) ↦ ends terms due.terms g.text (g.more ++ h.due.0 ∷ due.later) (whole ∙ (ap (λ xs. xs ++ h.due.0 ∷ due.later) g.is ∙ append_assoc (head_lines terms) (g.text ∷ g.more) (h.due.0 ∷ due.later)))
      | inr (inr p) ↦ ends terms due.terms h.due.0 due.later (whole ∙ ap (λ xs. xs ++ h.due.0 ∷ due.later) p.0)
    ]
