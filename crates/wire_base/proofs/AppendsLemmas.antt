-- Appends one after another, of which memory may cut off any.
use Rattle.std.proofs.Common.{◌≡◌, ℕ, List, [], ◌++◌, length, take, refl, sym, ap, ◌∙◌, append_assoc}
use Rattle.std.proofs.lemmas.List.{append-nil}
use Rattle.std.proofs.Math.Seq.{take-append_seam}
use Rattle.wire_base.specs.Appends.{AppendsTo, AppendsFront}

-- ---- a text part by part

pub to_all : (old new text : List ℕ) → new ≡ old → AppendsTo text old new text
to_all old new text e = record { front = []; text_is = refl; new_is = e ∙ sym (append-nil old) }

pub to_rest : (old mid new text part rest : List ℕ) → AppendsTo (part ++ rest) old mid text → new ≡ mid ++ part → AppendsTo rest old new text
to_rest old mid new text part rest h e = record {
  front = h.front ++ part;
  text_is = h.text_is ∙ sym (append_assoc h.front part rest);
  new_is = e ∙ ap (λ (s : List ℕ). s ++ part) h.new_is ∙ append_assoc old h.front part;
}

pub to_none : (old new text : List ℕ) → AppendsTo [] old new text → new ≡ old ++ text
to_none old new text h = h.new_is ∙ ap (λ (s : List ℕ). old ++ s) (sym (h.text_is ∙ append-nil h.front))

-- a part was cut off
pub to_cut : (old mid new text part rest : List ℕ) → AppendsTo (part ++ rest) old mid text → AppendsFront mid new part → AppendsFront old new text
to_cut old mid new text part rest h cut =
    let same : part ++ rest ≡ cut.appended.front ++ (cut.rest ++ rest) = ap (λ (s : List ℕ). s ++ rest) cut.appended.text_is ∙ append_assoc cut.appended.front cut.rest rest in
    let left : AppendsTo (cut.appended.front ++ (cut.rest ++ rest)) old mid text = rw (← same) h in
    record { rest = cut.rest ++ rest; appended = to_rest old mid new text cut.appended.front (cut.rest ++ rest) left cut.appended.new_is }

-- ---- one text, and two

-- nothing was appended yet
pub appends_none : (old new text : List ℕ) → new ≡ old → AppendsFront old new text
appends_none old new text e = record { rest = text; appended = to_all old new text e }

-- the first of two texts was cut off
pub appends_first : (old new text more : List ℕ) → AppendsFront old new text → AppendsFront old new (text ++ more)
appends_first old new text more = to_cut old old new (text ++ more) text more (to_all old old (text ++ more) refl)

-- the first of two texts is there, and the second was cut off
pub appends_second : (old mid new text more : List ℕ) → mid ≡ old ++ text → AppendsFront mid new more → AppendsFront old new (text ++ more)
appends_second old mid new text more e h =
    let left : AppendsTo (more ++ []) old mid (text ++ more) = record { front = text; text_is = ap (λ (s : List ℕ). text ++ s) (sym (append-nil more)); new_is = e } in
    to_cut old mid new (text ++ more) more [] left h

-- both are there
pub appends_both : (old mid new text more : List ℕ) → mid ≡ old ++ text → new ≡ mid ++ more → new ≡ old ++ (text ++ more)
appends_both old mid new text more e f = f ∙ ap (λ (s : List ℕ). s ++ more) e ∙ append_assoc old text more

-- what stood there stands in front
pub front_is_kept : (old new text : List ℕ) → AppendsFront old new text → take (length old) new ≡ old
front_is_kept old new text h = ap (λ (s : List ℕ). take (length old) s) h.appended.new_is ∙ take-append_seam old h.appended.front

pub ruleset appends = (appends_none, appends_first, appends_second)
