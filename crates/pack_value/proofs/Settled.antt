-- What tokens say is said once, and stays whatever follows.
use Rattle.std.proofs.Common.{◌≡◌, ℕ, zero, suc, ◌+◌, ◌≤◌, Bool, true, false, cond, ltb, List, [], ◌∷◌, ◌++◌, length, take, drop, Option, Some, None, refl, ap, subst, ◌∙◌, arith, length-append, length-drop}
use Rattle.std.proofs.lemmas.List.{take-append-le, drop-append-le}
use Rattle.std.proofs.lemmas.Bool.{ltb-false, le-ltb}
use Rattle.wire_base.specs.declared.reason.Reason.{Reason}
use Rattle.wire_base.specs.declared.token.TokenHead.{TokenHead}
use Rattle.wire_base.specs.declared.token.HeadStep.{HeadStep}
use Rattle.wire_base.specs.declared.token.HeadStep.TheVariants as step
use Rattle.wire_base.specs.Head.{kind_of, head_of}
use Rattle.wire_base.specs.declared.reading.Fault.TheVariants.{Ends, Breaks}
use Rattle.pack_value.specs.Tokens.{Want, levels, first_rule, length_rule, content_rule, wants_of, Next, takes, cut, breaks, or_next, next_by_content, next_by_head, next_of, BreaksAfter}
use Rattle.wire_base.specs.Rules.{body_size}
use Rattle.wire_base.proofs.HeadLemmas.{head_stays, refused_stays}
use Rattle.pack_value.proofs.Heads.{head-front}
use Rattle.pack_value.proofs.Follows.{Passes, Reaches, Stopped}

-- ---- a token lies within the bytes

or_takes : (o : Option Reason) (x : Next) (n : ℕ) (more : List Want) → or_next o x ≡ takes n more → x ≡ takes n more
or_takes (Some r) x n more e = absurd cc
or_takes None x n more e = e

not_cut : (t : Bool) (x : Next) (n : ℕ) (more : List Want) → cond t cut x ≡ takes n more → (t ≡ false) × (x ≡ takes n more)
not_cut true x n more e = absurd cc
not_cut false x n more e = (refl, e)

same_len : (m n : ℕ) (vs ws : List Want) → takes m vs ≡ takes n ws → n ≡ m
same_len m n vs ws e = cc

by_head_within : (w : Want) (s : HeadStep) (b : List ℕ) (n : ℕ) (more : List Want) → head_of b ≡ s → next_by_head w s b ≡ takes n more → n ≤ length b
by_head_within w step.Short b n more h e = absurd cc
by_head_within w (step.Refused r) b n more h e = absurd cc
by_head_within w (step.Got t k) b n more h e =
    let rest = drop k b in
    let f = or_takes (length_rule t) (next_by_content w t k rest) n more e in
    let g = not_cut (ltb (length rest) (body_size t)) (or_next (content_rule t (take (body_size t) rest)) (takes (k + body_size t) (wants_of (levels w) t))) n more f in
    let i = or_takes (content_rule t (take (body_size t) rest)) (takes (k + body_size t) (wants_of (levels w) t)) n more g.1 in
    let same = same_len (k + body_size t) n (wants_of (levels w) t) more i in
    let room : body_size t ≤ length (drop k b) = ltb-false (length rest) (body_size t) g.0 in
    let front = head-front b t k h in
    omega (arith, same, room, front.within, length-drop k b)

takes_within : (w : Want) (b : List ℕ) (n : ℕ) (more : List Want) → next_of w b ≡ takes n more → n ≤ length b
takes_within w [] n more e = absurd cc
takes_within w (x ∷ rest) n more e =
    by_head_within w (head_of (x ∷ rest)) (x ∷ rest) n more refl (or_takes (first_rule w (kind_of x)) (next_by_head w (head_of (x ∷ rest)) (x ∷ rest)) n more e)

-- ---- what tokens that pass leave

pub record Left (b : List ℕ) (vs : List Want) (c : List ℕ) (k : ℕ) (r : Reason) : Type 0 where
  pub turns : ℕ
  pub after : ℕ
  pub breaks : BreaksAfter turns vs c after r
  pub sum : k + length c ≡ after + length b

forced : (m : ℕ) (ws : List Want) (b : List ℕ) (vs : List Want) (c : List ℕ) → Passes m ws b vs c → (n k : ℕ) (r : Reason) → BreaksAfter n ws b k r → Left b vs c k r
forced zero ws b vs c p n k r q = rw (← p.0, ← p.1) (record { turns = n; after = k; breaks = q; sum = refl })
forced (suc m) [] b vs c p n k r q = absurd p
forced (suc m) (w ∷ ws) b vs c p zero k r q = absurd cc
forced (suc m) (w ∷ ws) b vs c p (suc n) k r q =
    let same_len : q.0 ≡ p.0 = cc in
    let same_wants : q.2 ≡ p.1 = cc in
    let rest : BreaksAfter n (p.1 ++ ws) (drop p.0 b) q.1 r = subst (λ (x : ℕ). BreaksAfter n (p.1 ++ ws) (drop x b) q.1 r) same_len (subst (λ (x : List Want). BreaksAfter n (x ++ ws) (drop q.0 b) q.1 r) same_wants q.5) in
    let i = forced m (p.1 ++ ws) (drop p.0 b) vs c p.3 n q.1 r rest in
    record { turns = i.turns; after = i.after; breaks = i.breaks; sum = omega (arith, q.4, same_len, i.sum, length-drop p.0 b, takes_within w b p.0 p.1 p.2) }

pub not_reached : (ws : List Want) (b c : List ℕ) → Reaches ws b [] c → (n k : ℕ) (r : Reason) → BreaksAfter n ws b k r → ⊥
not_reached ws b c p n k r q = (forced p.turns ws b [] c p.passes n k r q).breaks

at_cut : (n : ℕ) (w : Want) (ws : List Want) (c : List ℕ) (k : ℕ) (r : Reason) → next_of w c ≡ cut → BreaksAfter n (w ∷ ws) c k r → ⊥
at_cut zero w ws c k r e q = cc
at_cut (suc n) w ws c k r e q = cc

at_break : (n : ℕ) (w : Want) (ws : List Want) (c : List ℕ) (k : ℕ) (r s : Reason) → next_of w c ≡ breaks s → BreaksAfter n (w ∷ ws) c k r → (s ≡ r) × (k ≡ 0)
at_break zero w ws c k r s e q = (cc, q.1)
at_break (suc n) w ws c k r s e q = absurd cc

pub not_short : (ws : List Want) (b : List ℕ) → Stopped Ends ws b → (n k : ℕ) (r : Reason) → BreaksAfter n ws b k r → ⊥
not_short ws b p n k r q =
    let f = forced p.reach.turns ws b (p.want ∷ p.others) p.at p.reach.passes n k r q in
    at_cut f.turns p.want p.others p.at f.after r p.says f.breaks

pub same_break : (ws : List Want) (b : List ℕ) (s : Reason) (left : ℕ) → Stopped (Breaks left s) ws b → (n k : ℕ) (r : Reason) → BreaksAfter n ws b k r → (s ≡ r) × (k + left ≡ length b)
same_break ws b s left p n k r q =
    let f = forced p.reach.turns ws b (p.want ∷ p.others) p.at p.reach.passes n k r q in
    let e = at_break f.turns p.want p.others p.at f.after r s p.says.0 f.breaks in
    (e.0, omega (arith, f.sum, e.1, p.says.1))

pub record Broken (ws : List Want) (b : List ℕ) (left : ℕ) (r : Reason) : Type 0 where
  pub turns : ℕ
  pub after : ℕ
  pub breaks : BreaksAfter turns ws b after r
  pub sum : after + left ≡ length b

broken_later : (m : ℕ) (ws : List Want) (b : List ℕ) (w : Want) (vs : List Want) (c : List ℕ) (r : Reason) → Passes m ws b (w ∷ vs) c → next_of w c ≡ breaks r → Broken ws b (length c) r
broken_later zero ws b w vs c r p e = rw (p.0, p.1) (record { turns = 0; after = 0; breaks = (e, refl); sum = omega arith })
broken_later (suc m) [] b w vs c r p e = absurd p
broken_later (suc m) (v ∷ ws) b w vs c r p e =
    let i = broken_later m (p.1 ++ ws) (drop p.0 b) w vs c r p.3 e in
    record { turns = suc i.turns; after = p.0 + i.after; breaks = (p.0, i.after, p.1, p.2, refl, i.breaks); sum = omega (arith, i.sum, length-drop p.0 b, takes_within v b p.0 p.1 p.2) }

pub broken_at : (ws : List Want) (b : List ℕ) (r : Reason) (left : ℕ) → Stopped (Breaks left r) ws b → Broken ws b left r
broken_at ws b r left p = rw (← p.says.1) (broken_later p.reach.turns ws b p.want p.others p.at r p.reach.passes p.says.0)

-- ---- whatever follows

-- a front that is long enough is the same front, whatever follows
same_content : (t u : Bool) (x : Next) → u ≡ false → (cond t cut x ≡ cut → ⊥) → cond u cut x ≡ cond t cut x
same_content true u x e settled = absurd (settled refl)
same_content false u x e settled = rw e refl

or_settled : (o : Option Reason) (x y : Next) → ((x ≡ cut → ⊥) → y ≡ x) → (or_next o x ≡ cut → ⊥) → or_next o y ≡ or_next o x
or_settled (Some r) x y same settled = refl
or_settled None x y same settled = same settled

room_of : (t : Bool) (x : Next) → (cond t cut x ≡ cut → ⊥) → t ≡ false
room_of true x settled = absurd (settled refl)
room_of false x settled = refl

content_more : (w : Want) (h : TokenHead) (n : ℕ) (rest more : List ℕ) → (next_by_content w h n rest ≡ cut → ⊥) → next_by_content w h n (rest ++ more) ≡ next_by_content w h n rest
content_more w h n rest more settled =
    let whole = takes (n + body_size h) (wants_of (levels w) h) in
    let room : body_size h ≤ length rest = ltb-false (length rest) (body_size h) (room_of (ltb (length rest) (body_size h)) (or_next (content_rule h (take (body_size h) rest)) whole) settled) in
    let e : take (body_size h) (rest ++ more) ≡ take (body_size h) rest = take-append-le (body_size h) rest more room in
    rw e (same_content (ltb (length rest) (body_size h)) (ltb (length (rest ++ more)) (body_size h)) (or_next (content_rule h (take (body_size h) rest)) whole)
    (le-ltb (length (rest ++ more)) (body_size h) (omega (arith, room, length-append rest more))) settled)

by_head_more : (w : Want) (s : HeadStep) (b more : List ℕ) → head_of b ≡ s → (next_by_head w s b ≡ cut → ⊥) → next_by_head w (head_of (b ++ more)) (b ++ more) ≡ next_by_head w s b
by_head_more w step.Short b more h settled = absurd (settled refl)
by_head_more w (step.Refused r) b more h settled = ap (λ s. next_by_head w s (b ++ more)) (refused_stays b more r h)
by_head_more w (step.Got t k) b more h settled =
    let front = head-front b t k h in
    let e : drop k (b ++ more) ≡ drop k b ++ more = drop-append-le k b more front.within in
    ap (λ s. next_by_head w s (b ++ more)) (head_stays b more t k h)
    ∙ ap (λ (c : List ℕ). or_next (length_rule t) (next_by_content w t k c)) e
    ∙ or_settled (length_rule t) (next_by_content w t k (drop k b)) (next_by_content w t k (drop k b ++ more)) (content_more w t k (drop k b) more) settled

next_more : (w : Want) (b more : List ℕ) → (next_of w b ≡ cut → ⊥) → next_of w (b ++ more) ≡ next_of w b
next_more w [] more settled = absurd (settled refl)
next_more w (x ∷ rest) more settled =
    or_settled (first_rule w (kind_of x)) (next_by_head w (head_of (x ∷ rest)) (x ∷ rest)) (next_by_head w (head_of (x ∷ (rest ++ more))) (x ∷ (rest ++ more)))
    (by_head_more w (head_of (x ∷ rest)) (x ∷ rest) more refl) settled

pub breaks_more : (n : ℕ) (ws : List Want) (b more : List ℕ) (k : ℕ) (r : Reason) → BreaksAfter n ws b k r → BreaksAfter n ws (b ++ more) k r
breaks_more n [] b more k r p = p
breaks_more zero (w ∷ ws) b more k r p = (next_more w b more (λ e. cc) ∙ p.0, p.1)
breaks_more (suc n) (w ∷ ws) b more k r p =
    let e : drop p.0 (b ++ more) ≡ drop p.0 b ++ more = drop-append-le p.0 b more (takes_within w b p.0 p.2 p.3) in
    (p.0, p.1, p.2, next_more w b more (λ e. cc) ∙ p.3, p.4, rw e (breaks_more n (p.2 ++ ws) (drop p.0 b) more p.1 r p.5))
