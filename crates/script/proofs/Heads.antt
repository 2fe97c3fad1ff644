-- The head of a script, written and read.
use Rattle.std.proofs.Common.{◌≡◌, ℕ, ◌+◌, ◌⊎◌, inl, inr, true, false, List, [], ◌∷◌, ◌++◌, length, map, refl, sym, ap, ap₂, ◌∙◌, Result, Ok, Err, codes, arith}
use Rattle.mux_run.specs.Run.{Terms}
use Rattle.mux_run.specs.declared.steps.Side.TheVariants.{A, B}
use Rattle.wire_base.specs.declared.frame.Version.{Version}
use Rattle.wire_base.specs.declared.frame.Version.TheVariants as version
use Rattle.text_words.specs.Written.{is_nonce}
use Rattle.script.specs.declared.reason.ScriptReason.{ScriptReason}
use Rattle.script.specs.Lines.{TextLine, whole_line}
use Rattle.script.specs.Spelling.{AreTerms, has_nonces, no_nonce, version_line, nonce_line, nonce_lines, head_lines}
use Rattle.script.specs.Steps.{format_in, version_in, nonce_line_in}
use Rattle.script.specs.Rules.{BeginsHead, IsLineDue, BreaksHeadRule, IsHeadRefused}
use Rattle.script.specs.Found.{breaks, steps_from, head_from, nonce_b_from, nonces_from, version_from, script_from}
use Rattle.text_words.proofs.ByteTests.{tested, not_both}
use Rattle.script.proofs.NonceLines.{nonce_line_in-line, nonce_line_in-ok, nonce_line_in-err}
use Rattle.script.proofs.HeadLines.{format_line-text, version_line-text, nonce_line-text, format_in-line, format_in-ok, format_in-err, version_in-line, version_in-ok, version_in-err, one_version, reads_line, RefusesOthers, IsHeadLine, head_from-cases}

-- behind the nonces of a version that has some
nonces_some : (terms : Terms) (rest : List TextLine) → AreTerms terms → has_nonces terms.version ≡ true
    → nonces_from terms.version (whole_line (nonce_line A terms.nonce_a) ∷ whole_line (nonce_line B terms.nonce_b) ∷ rest) ≡ steps_from terms [] 0 5 rest
nonces_some terms rest h e =
    let a = reads_line (nonce_line_in A) (nonce_line A terms.nonce_a) terms.nonce_a (nonce_line-text A terms.nonce_a h.a) (nonce_line_in-line A terms.nonce_a h.a) in
    let b = reads_line (nonce_line_in B) (nonce_line B terms.nonce_b) terms.nonce_b (nonce_line-text B terms.nonce_b h.b) (nonce_line_in-line B terms.nonce_b h.b) in
    rw (e, a, b) refl

nonces_none : (terms : Terms) (rest : List TextLine) → AreTerms terms → has_nonces terms.version ≡ false → nonces_from terms.version rest ≡ steps_from terms [] 0 3 rest
nonces_none terms rest h e =
    rw e (ap₂ (λ a b. steps_from (record { version = terms.version; nonce_a = a; nonce_b = b }) [] 0 3 rest) (sym (h.none_a e)) (sym (h.none_b e)))

nonces_after : (terms : Terms) (rest : List TextLine) → AreTerms terms
    → nonces_from terms.version (map whole_line (nonce_lines terms) ++ rest) ≡ steps_from terms [] 0 (length (head_lines terms) + 1) rest
nonces_after terms rest h = elim (tested (has_nonces terms.version)) [
  | inl e ↦ nonces_lines_some e
  | inr e ↦ nonces_lines_none e
]
  where
    nonces_lines_some : has_nonces terms.version ≡ true → nonces_from terms.version (map whole_line (nonce_lines terms) ++ rest) ≡ steps_from terms [] 0 (length (head_lines terms) + 1) rest
    nonces_lines_some e = let all = nonces_some terms rest h e in rw e (rw e at all)

    nonces_lines_none : has_nonces terms.version ≡ false → nonces_from terms.version (map whole_line (nonce_lines terms) ++ rest) ≡ steps_from terms [] 0 (length (head_lines terms) + 1) rest
    nonces_lines_none e = let all = nonces_none terms rest h e in rw e (rw e at all)

-- behind a head
pub head_goes_on : (terms : Terms) (rest : List TextLine) → AreTerms terms
    → script_from (map whole_line (head_lines terms) ++ rest) ≡ steps_from terms [] 0 (length (head_lines terms) + 1) rest
head_goes_on terms rest h =
    let format = reads_line format_in (codes "script 1") tt format_line-text format_in-line in
    let version = reads_line version_in (version_line terms.version) terms.version (version_line-text terms.version) (version_in-line terms.version) in
    rw (format, version) (nonces_after terms rest h)

two_lines : (terms : Terms) (rest : List TextLine) → has_nonces terms.version ≡ true
    → map whole_line (nonce_lines terms) ++ rest ≡ whole_line (nonce_line A terms.nonce_a) ∷ whole_line (nonce_line B terms.nonce_b) ∷ rest
two_lines terms rest e = rw e refl

no_lines : (terms : Terms) (rest : List TextLine) → has_nonces terms.version ≡ false → map whole_line (nonce_lines terms) ++ rest ≡ rest
no_lines terms rest e = rw e refl

three_parts : {a b c d : List ℕ} {xs ys : List TextLine} → a ≡ b → c ≡ d → xs ≡ ys → whole_line a ∷ whole_line c ∷ xs ≡ whole_line b ∷ whole_line d ∷ ys
three_parts e f g = cc

-- the nonces of a version stand in front of these lines
pub record HasNonces (v : Version) (lines : List TextLine) : Type 0 where
  pub terms : Terms
  pub rest : List TextLine
  pub terms_are : AreTerms terms
  pub version : terms.version ≡ v
  pub is : lines ≡ map whole_line (nonce_lines terms) ++ rest

-- they don't: the first of these lines that breaks a rule stands behind some of them
pub record HasNoNonces (v : Version) (lines : List TextLine) : Type 0 where
  pub first : List (List ℕ)
  pub rest : List TextLine
  pub fault : ScriptReason
  pub is : lines ≡ map whole_line first ++ rest
  pub due : IsLineDue (codes "script 1" ∷ version_line v ∷ first)
  pub breaks_rule : BreaksHeadRule fault (codes "script 1" ∷ version_line v ∷ first) rest
  pub found : nonces_from v lines ≡ breaks (length first + 3) fault

clash : {X : Type 0} (r : Result X ScriptReason) (x : X) (fault : ScriptReason) → r ≡ Ok x → r ≡ Err fault → ⊥
clash r x fault good bad = cc (sym good ∙ bad)

refuses_format : RefusesOthers format_in []
refuses_format text fault h = (
  format_in-err text fault h,
  λ head.
      let same : text ≡ codes "script 1" = cc (head.is) in
      clash (format_in text) tt fault (ap format_in same ∙ format_in-line) h,
)

refuses_version : RefusesOthers version_in (codes "script 1" ∷ [])
refuses_version text fault h = (
  version_in-err text fault h,
  λ head.
      let same : text ≡ version_line head.terms.version = cc (head.is) in
      clash (version_in text) head.terms.version fault (ap version_in same ∙ version_in-line head.terms.version) h,
)

-- the nonces of a head that begins with these lines
nonces_behind : (v : Version) (first : List (List ℕ)) → has_nonces v ≡ true → (head : BeginsHead (codes "script 1" ∷ version_line v ∷ first)) → nonce_line A head.terms.nonce_a ∷ nonce_line B head.terms.nonce_b ∷ [] ≡ first ++ head.later
nonces_behind v first e head =
    let second : version_line head.terms.version ≡ version_line v = cc (head.is) in
    let behind : nonce_lines head.terms ≡ first ++ head.later = cc (head.is) in
    let some : has_nonces head.terms.version ≡ true = ap has_nonces (one_version head.terms.version v second) ∙ e in
    rw some at behind

refuses_nonce_a : (v : Version) → has_nonces v ≡ true → RefusesOthers (nonce_line_in A) (codes "script 1" ∷ version_line v ∷ [])
refuses_nonce_a v e text fault h = (
  nonce_line_in-err A text fault h,
  λ head.
      let same : text ≡ nonce_line A head.terms.nonce_a = cc (nonces_behind v (text ∷ []) e head) in
      clash (nonce_line_in A text) head.terms.nonce_a fault (ap (nonce_line_in A) same ∙ nonce_line_in-line A head.terms.nonce_a head.terms_are.a) h,
)

refuses_nonce_b : (v : Version) (a : List ℕ) → has_nonces v ≡ true → RefusesOthers (nonce_line_in B) (codes "script 1" ∷ version_line v ∷ a ∷ [])
refuses_nonce_b v a e text fault h = (
  nonce_line_in-err B text fault h,
  λ head.
      let same : text ≡ nonce_line B head.terms.nonce_b = cc (nonces_behind v (a ∷ text ∷ []) e head) in
      clash (nonce_line_in B text) head.terms.nonce_b fault (ap (nonce_line_in B) same ∙ nonce_line_in-line B head.terms.nonce_b head.terms_are.b) h,
)

-- terms without nonces
abbrev bare : Version → Terms
bare v = record { version = v; nonce_a = no_nonce; nonce_b = no_nonce }

bare_are : (v : Version) → AreTerms (bare v)
bare_are v = record { a = refl; b = refl; none_a = λ none. refl; none_b = λ none. refl }

some_are : (v : Version) (a b : List ℕ) → has_nonces v ≡ true → is_nonce a ≡ true → is_nonce b ≡ true → AreTerms (record { version = v; nonce_a = a; nonce_b = b })
some_are v a b e of_a of_b = record { a = of_a; b = of_b; none_a = λ none. absurd (not_both (has_nonces v) e none); none_b = λ none. absurd (not_both (has_nonces v) e none) }

format_due : IsLineDue []
format_due = (codes "script 1", record { terms = bare version.Three; later = version_line version.Three ∷ []; terms_are = bare_are version.Three; is = refl })

version_due : IsLineDue (codes "script 1" ∷ [])
version_due = (version_line version.Three, record { terms = bare version.Three; later = []; terms_are = bare_are version.Three; is = refl })

nonce_a_due : (v : Version) → has_nonces v ≡ true → IsLineDue (codes "script 1" ∷ version_line v ∷ [])
nonce_a_due v e = (nonce_line A no_nonce, record { terms = bare v; later = nonce_line B no_nonce ∷ []; terms_are = bare_are v; is = rw e refl })

nonce_b_due : (v : Version) (a : List ℕ) → has_nonces v ≡ true → is_nonce a ≡ true → IsLineDue (codes "script 1" ∷ version_line v ∷ nonce_line A a ∷ [])
nonce_b_due v a e of_a = (nonce_line B no_nonce, record { terms = record { version = v; nonce_a = a; nonce_b = no_nonce }; later = []; terms_are = some_are v a no_nonce e of_a refl; is = rw e refl })

has_some : (v : Version) (lines : List TextLine) → has_nonces v ≡ true → HasNonces v lines ⊎ HasNoNonces v lines
has_some v lines e = elim (head_from-cases 3 (nonce_line_in A) (nonce_b_from v) (codes "script 1" ∷ version_line v ∷ []) lines (refuses_nonce_a v e)) [
  | inr f ↦ inr (record { first = []; rest = lines; fault = f.fault; is = refl; due = nonce_a_due v e; breaks_rule = f.breaks_rule; found = rw e f.is })
  | inl a ↦ behind_a a (nonce_line_in-ok A a.text a.value a.reads)
]
  where
    behind_a : (a : IsHeadLine (List ℕ) (nonce_line_in A) (nonce_b_from v) lines (head_from 3 (nonce_line_in A) (nonce_b_from v) lines)) → (a.text ≡ nonce_line A a.value) × (is_nonce a.value ≡ true) → HasNonces v lines ⊎ HasNoNonces v lines
    behind_a a first = elim (head_from-cases 4 (nonce_line_in B) (λ b. steps_from (record { version = v; nonce_a = a.value; nonce_b = b }) [] 0 5) (codes "script 1" ∷ version_line v ∷ nonce_line A a.value ∷ []) a.rest (refuses_nonce_b v (nonce_line A a.value) e)) [
      | inr f ↦ inr (record {
        first = nonce_line A a.value ∷ [];
        rest = a.rest;
        fault = f.fault;
        is = a.is ∙ ap (λ text. whole_line text ∷ a.rest) first.0;
        due = nonce_b_due v a.value e first.1;
        breaks_rule = f.breaks_rule;
        found = rw e (a.next ∙ f.is);
      })
      | inl b ↦
          let second = nonce_line_in-ok B b.text b.value b.reads in
          let terms : Terms = record { version = v; nonce_a = a.value; nonce_b = b.value } in
          inl (record {
            terms = terms;
            rest = b.rest;
            terms_are = some_are v a.value b.value e first.1 second.1;
            version = refl;
            is = a.is ∙ (ap₂ (λ x y. whole_line x ∷ y) first.0 (b.is ∙ ap (λ x. whole_line x ∷ b.rest) second.0) ∙ sym (two_lines terms b.rest e));
          })
    ]

-- the lines behind the version
nonces_cases : (v : Version) (lines : List TextLine) → HasNonces v lines ⊎ HasNoNonces v lines
nonces_cases v lines = elim (tested (has_nonces v)) [
  | inl e ↦ has_some v lines e
  | inr e ↦
      inl (record { terms = bare v; rest = lines; terms_are = bare_are v; version = refl; is = sym (no_lines (bare v) lines e) })
]

-- lines that begin with a head
pub record IsHeaded (lines : List TextLine) : Type 0 where
  pub terms : Terms
  pub rest : List TextLine
  pub terms_are : AreTerms terms
  pub is : lines ≡ map whole_line (head_lines terms) ++ rest

-- lines of which one breaks a rule of the head
pub record IsHeadless (lines : List TextLine) : Type 0 where
  pub number : ℕ
  pub fault : ScriptReason
  pub refused : IsHeadRefused lines number fault
  pub is : script_from lines ≡ breaks number fault

behind_version : (lines : List TextLine) (first second : List ℕ) (behind : List TextLine) (v : Version) → lines ≡ whole_line first ∷ whole_line second ∷ behind → first ≡ codes "script 1" → second ≡ version_line v
    → script_from lines ≡ nonces_from v behind → HasNonces v behind ⊎ HasNoNonces v behind → IsHeaded lines ⊎ IsHeadless lines
behind_version lines first second behind v is format version next (inl some) = inl (record {
  terms = some.terms;
  rest = some.rest;
  terms_are = some.terms_are;
  is = is ∙ three_parts format (version ∙ ap version_line (sym some.version)) some.is;
})
behind_version lines first second behind v is format version next (inr none) = inr (record {
  number = length none.first + 3;
  fault = none.fault;
  refused = record {
    first = codes "script 1" ∷ version_line v ∷ none.first;
    rest = none.rest;
    is = is ∙ three_parts format version none.is;
    place = omega arith;
    due = none.due;
    breaks_rule = none.breaks_rule;
  };
  is = next ∙ none.found;
})

-- each text begins with a head, or has a line that breaks a rule of one
pub head_cases : (lines : List TextLine) → IsHeaded lines ⊎ IsHeadless lines
head_cases lines = elim (head_from-cases 1 format_in (λ _. version_from) [] lines refuses_format) [
  | inr f ↦ inr (record { number = 1; fault = f.fault; refused = record { first = []; rest = lines; is = refl; place = refl; due = format_due; breaks_rule = f.breaks_rule }; is = f.is })
  | inl a ↦ elim (head_from-cases 2 version_in nonces_from (codes "script 1" ∷ []) a.rest refuses_version) [
    | inr f ↦ inr (record {
      number = 2;
      fault = f.fault;
      refused = record {
        first = codes "script 1" ∷ [];
        rest = a.rest;
        is = a.is ∙ ap (λ text. whole_line text ∷ a.rest) (format_in-ok a.text a.value a.reads);
        place = refl;
        due = version_due;
        breaks_rule = f.breaks_rule;
      };
      is = a.next ∙ f.is;
    })
    | inl b ↦
        behind_version lines a.text b.text b.rest b.value (a.is ∙ ap (λ rest. whole_line a.text ∷ rest) b.is) (format_in-ok a.text a.value a.reads) (version_in-ok b.text b.value b.reads)
        (a.next ∙ b.next) (nonces_cases b.value b.rest)
  ]
]
