-- A line of a script's head, written and read.
use Rattle.std.proofs.Common.{◌≡◌, ℕ, ◌⊎◌, inl, inr, Bool, true, false, cond, List, [], ◌∷◌, ◌++◌, refl, sym, ap, ap₂, subst, ◌∙◌, Result, Ok, Err, codes}
use Rattle.std.specs.Prelude.{if◌then◌else◌}
use Rattle.std.specs.List.{list_all}
use Rattle.std.specs.Str.{is_utf8, bytes_eq, chars}
use Rattle.std.proofs.lemmas.Bool.{and_parts}
use Rattle.std.proofs.lemmas.Str.{IsUtf8-from_is_utf8}
use Rattle.mux_run.specs.Run.{Terms}
use Rattle.mux_run.specs.declared.steps.Side.{Side}
use Rattle.mux_run.specs.declared.steps.Side.TheVariants.{A, B}
use Rattle.wire_base.specs.declared.frame.Version.{Version}
use Rattle.wire_base.specs.declared.frame.Version.TheVariants as version
use Rattle.script.specs.declared.reason.ScriptReason.{ScriptReason}
use Rattle.script.specs.declared.reason.ScriptReason.TheVariants as reason
use Rattle.script.specs.Lines.{TextLine, whole_line}
use Rattle.text_words.specs.Written.{is_nonce, is_line_text, stands_in_line}
use Rattle.script.specs.Spelling.{AreTerms, has_nonces, version_line, nonce_words, nonce_line, nonce_lines, head_lines}
use Rattle.script.specs.Steps.{on_ok, text_in, format_in, version_in}
use Rattle.script.specs.Rules.{BeginsHead, BreaksHeadRule}
use Rattle.script.specs.Found.{Found, breaks, behind, head_from}
use Rattle.text_words.proofs.ByteTests.{and_true, tested, same_from_bytes_eq}
use Rattle.text_words.proofs.Joined.{joined-text}
use Rattle.script.proofs.TextLemmas.{text_in-ended}
use Rattle.script.proofs.NonceLines.{nonce_words-texts}
use Rattle.script.proofs.StepLines.{on_ok-ok, text_in-ok, IsWhole}

-- the lines of a head are texts

pub format_line-text : is_line_text (codes "script 1") ≡ true
unfolding is_utf8 chars lib.Utf8.encode
format_line-text = refl

pub version_line-text : (v : Version) → is_line_text (version_line v) ≡ true
unfolding is_utf8 chars lib.Utf8.encode
version_line-text version.One = refl
version_line-text version.Two = refl
version_line-text version.Three = refl

pub nonce_line-text : (side : Side) (nonce : List ℕ) → is_nonce nonce ≡ true → is_line_text (nonce_line side nonce) ≡ true
nonce_line-text side nonce h = joined-text (nonce_words side nonce) (nonce_words-texts side nonce h)

nonce_lines-texts : (terms : Terms) → AreTerms terms → list_all is_line_text (nonce_lines terms) ≡ true
nonce_lines-texts terms h =
    elim (has_nonces terms.version) as (λ b. list_all is_line_text (if b then nonce_line A terms.nonce_a ∷ nonce_line B terms.nonce_b ∷ [] else []) ≡ true) [
      | true ↦ rw (nonce_line-text A terms.nonce_a h.a, nonce_line-text B terms.nonce_b h.b) refl
      | false ↦ refl
    ]

pub head_lines-texts : (terms : Terms) → AreTerms terms → list_all is_line_text (head_lines terms) ≡ true
head_lines-texts terms h =
    and_true (is_line_text (codes "script 1")) (list_all is_line_text (version_line terms.version ∷ nonce_lines terms)) format_line-text
    (and_true (is_line_text (version_line terms.version)) (list_all is_line_text (nonce_lines terms)) (version_line-text terms.version) (nonce_lines-texts terms h))

-- what each stands for

pub format_in-line : format_in (codes "script 1") ≡ Ok tt
unfolding format_in
format_in-line = refl

pub version_in-line : (v : Version) → version_in (version_line v) ≡ Ok v
unfolding version_in
version_in-line version.One = refl
version_in-line version.Two = refl
version_in-line version.Three = refl

chosen_ok : {X : Type 0} (b : Bool) (x : X) (r : Result X ScriptReason) (y : X) → cond b (Ok x) r ≡ Ok y → ((b ≡ true) × (x ≡ y)) ⊎ (r ≡ Ok y)
chosen_ok true x r y h = inl (refl, cc)
chosen_ok false x r y h = inr h

pub format_in-ok : (text : List ℕ) (u : Unit {0}) → format_in text ≡ Ok u → text ≡ codes "script 1"
unfolding format_in
format_in-ok text u h = elim (chosen_ok (bytes_eq text (codes "script 1")) tt _ u h) [
  | inl p ↦ same_from_bytes_eq text (codes "script 1") p.0
  | inr g ↦ cc g
]

named : (text : List ℕ) (v w : Version) → (bytes_eq text (version_line v) ≡ true) × (v ≡ w) → text ≡ version_line w
named text v w p = same_from_bytes_eq text (version_line v) p.0 ∙ ap version_line p.1

pub version_in-ok : (text : List ℕ) (v : Version) → version_in text ≡ Ok v → text ≡ version_line v
unfolding version_in
version_in-ok text v h = elim (chosen_ok (bytes_eq text (codes "version 1")) version.One _ v h) [
  | inl p ↦ named text version.One v p
  | inr h1 ↦ elim (chosen_ok (bytes_eq text (codes "version 2")) version.Two _ v h1) [
    | inl p ↦ named text version.Two v p
    | inr h2 ↦ elim (chosen_ok (bytes_eq text (codes "version 3")) version.Three _ v h2) [
      | inl p ↦ named text version.Three v p
      | inr h3 ↦ cc h3
    ]
  ]
]

pub one_version : (v w : Version) → version_line v ≡ version_line w → v ≡ w
one_version v w e =
    let one = version_in-line v in
    let other = version_in-line w in
    let same = rw e at one in
    let equal : Ok v ≡ Ok w = sym same ∙ other in
    cc

-- why each refuses others

pub err_same : {X : Type 0} (fault other : ScriptReason) (r : Result X ScriptReason) → r ≡ Err fault → r ≡ Err other → other ≡ fault
err_same fault other r one two = cc (sym one ∙ two)

chosen_err : {X : Type 0} (b : Bool) (x : X) (r : Result X ScriptReason) (fault : ScriptReason) → cond b (Ok x) r ≡ Err fault → r ≡ Err fault
chosen_err true x r fault h = cc h
chosen_err false x r fault h = h

pub format_in-err : (text : List ℕ) (fault : ScriptReason) → format_in text ≡ Err fault → fault ≡ reason.BadHead
unfolding format_in
format_in-err text fault h = err_same reason.BadHead fault _ refl (chosen_err (bytes_eq text (codes "script 1")) tt _ fault h)

pub version_in-err : (text : List ℕ) (fault : ScriptReason) → version_in text ≡ Err fault → fault ≡ reason.BadHead
unfolding version_in
version_in-err text fault h =
    let one = chosen_err (bytes_eq text (codes "version 1")) version.One _ fault h in
    let two = chosen_err (bytes_eq text (codes "version 2")) version.Two _ fault one in
    err_same reason.BadHead fault _ refl (chosen_err (bytes_eq text (codes "version 3")) version.Three _ fault two)

-- a whole line that stands for a value
pub reads_line : {X : Type 0} (read : List ℕ → Result X ScriptReason) (text : List ℕ) (x : X) → is_line_text text ≡ true → read text ≡ Ok x → on_ok (text_in (whole_line text)) read ≡ Ok x
reads_line read text x line h =
    rw (text_in-ended (whole_line text) (IsUtf8-from_is_utf8 text (and_parts (is_utf8 text) (list_all stands_in_line text) line).0) refl) h

-- a line that has an end is refused only for what no head has behind these lines
abbrev pub RefusesOthers : {X : Type 0} → (List ℕ → Result X ScriptReason) → (first : List (List ℕ)) → Type 0
RefusesOthers read first = (text : List ℕ) (fault : ScriptReason) → read text ≡ Err fault → (fault ≡ reason.BadHead) × ¬ BeginsHead (first ++ text ∷ [])

broken_rule : {X : Type 0} (read : List ℕ → Result X ScriptReason) (first : List (List ℕ)) (line : TextLine) (rest : List TextLine) (fault : ScriptReason) → RefusesOthers read first
    → on_ok (text_in line) read ≡ Err fault → BreaksHeadRule fault first (line ∷ rest)
unfolding text_in
broken_rule read first line rest fault refuses e =
    let P : ScriptReason → Type 0 = λ why. BreaksHeadRule why first (line ∷ rest) in
    elim (tested (is_utf8 line.text)) [
      | inr u ↦ subst P (sym (err_same reason.NotUtf8 fault _ refl (rw u at e))) u
      | inl u ↦ elim (tested line.has_end) [
        | inr open_end ↦ subst P (sym (err_same reason.NoLineEnd fault _ refl (rw (u, open_end) at e))) (u, open_end)
        | inl end ↦ let p = refuses line.text fault (rw (u, end) at e) in subst P (sym p.0) ((u, end), p.1)
      ]
    ]

-- the first of these lines stands for a value, and those after it decide
pub record IsHeadLine (X : Type 0) (read : List ℕ → Result X ScriptReason) (found : X → List TextLine → Found) (lines : List TextLine) (all : Found) : Type 0 where
  pub text : List ℕ
  pub value : X
  pub rest : List TextLine
  pub is : lines ≡ whole_line text ∷ rest
  pub reads : read text ≡ Ok value
  pub next : all ≡ found value rest

-- the first of these lines breaks a rule
pub record IsNoHeadLine (number : ℕ) (first : List (List ℕ)) (lines : List TextLine) (all : Found) : Type 0 where
  pub fault : ScriptReason
  pub breaks_rule : BreaksHeadRule fault first lines
  pub is : all ≡ breaks number fault

whole_is : (line : TextLine) (text : List ℕ) → IsWhole line text → line ≡ whole_line text
whole_is line text w = ap₂ (λ t e. record { text = t; has_end = e }) w.same w.end

pub head_from-cases : {X : Type 0} (number : ℕ) (read : List ℕ → Result X ScriptReason) (found : X → List TextLine → Found) (first : List (List ℕ)) (lines : List TextLine) → RefusesOthers read first
    → IsHeadLine X read found lines (head_from number read found lines) ⊎ IsNoHeadLine number first lines (head_from number read found lines)
head_from-cases number read found first [] refuses = inr (record { fault = reason.BadHead; breaks_rule = tt; is = refl })
head_from-cases {X} number read found first (line ∷ lines) refuses = by (on_ok (text_in line) read) refl
  where
    by : (r : Result X ScriptReason) → on_ok (text_in line) read ≡ r
        → IsHeadLine X read found (line ∷ lines) (head_from number read found (line ∷ lines)) ⊎ IsNoHeadLine number first (line ∷ lines) (head_from number read found (line ∷ lines))
    by (Ok x) e =
        let t = on_ok-ok (text_in line) read x e in
        inl (record {
          text = t.0;
          value = x;
          rest = lines;
          is = ap (λ first. first ∷ lines) (whole_is line t.0 (text_in-ok line t.0 t.1));
          reads = t.2;
          next = ap (λ r. behind number r (λ x. found x lines)) e;
        })
    by (Err fault) e = inr (record {
      fault = fault;
      breaks_rule = broken_rule read first line lines fault refuses e;
      is = ap (λ r. behind number r (λ x. found x lines)) e;
    })
