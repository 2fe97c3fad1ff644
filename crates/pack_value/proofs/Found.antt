-- What is read is spelled so.
use Rattle.std.proofs.Common.{◌≡◌, ℕ, zero, suc, ◌+◌, ◌≤◌, Bool, true, false, cond, ltb, List, [], ◌∷◌, ◌++◌, length, take, drop, Result, Ok, Err, refl, sym, ap, subst, ◌∙◌, append_assoc, arith}
use Rattle.std.specs.Prelude.{IsUtf8}
use Rattle.std.specs.Str.{is_utf8}
use Rattle.std.proofs.lemmas.Str.{IsUtf8-from_is_utf8}
use Rattle.std.proofs.lemmas.Bool.{ltb-false}
use Rattle.std.proofs.lemmas.List.{append-nil, take-append-drop, length-take}
use Rattle.wire_base.specs.Tree.{Tree, nil, flag, whole, words, bytes, items, pairs, trees_of, pairs_of}
use Rattle.wire_base.specs.declared.token.TokenHead.{TokenHead}
use Rattle.wire_base.specs.declared.token.TokenHead.TheVariants as token
use Rattle.wire_base.specs.declared.token.HeadStep.{HeadStep}
use Rattle.wire_base.specs.declared.token.HeadStep.TheVariants as step
use Rattle.wire_base.specs.Head.{head_of}
use Rattle.wire_base.specs.declared.reading.Fault.{Fault}
use Rattle.wire_base.specs.declared.reading.Fault.TheVariants.{Ends, Breaks}
use Rattle.wire_base.specs.declared.reason.Reason.TheVariants.{TooLong, BadUtf8}
use Rattle.wire_base.specs.Tokens.{Reading, Reader, follow, ◌>>=◌, done, bytes_at}
use Rattle.pack_value.specs.Reading.{run_at, text_at, key_of, key_at, repeat, pair_at, counted, counted_of, behind, at_head, too_deep, value_at}
use Rattle.wire_base.specs.Values.{nesting, nestings, pair_nestings}
use Rattle.pack_value.specs.Spelling.{IsHead, SpellsText, Spells, SpellsAll, SpellsPairs, count, pair_count, max_len}
use Rattle.pack_value.proofs.Heads.{head-front}

-- the value of a step that did not fail
follow_ok : {A B : Type 0} (r : Reading A) (f : A → Reader B) (y : B × List ℕ) → follow r f ≡ Ok y → (x : A × List ℕ) × (r ≡ Ok x) × (f x.0 x.1 ≡ Ok y)
follow_ok (Ok x) f y e = (x, refl, e)
follow_ok (Err d) f y e = absurd cc

-- a test that did not fail
guard_ok : {A : Type 0} (b : Bool) (d : Fault) (r : Result A Fault) (y : A) → cond b (Err d) r ≡ Ok y → (b ≡ false) × (r ≡ Ok y)
guard_ok true d r y e = absurd cc
guard_ok false d r y e = (refl, e)

passed : {A : Type 0} (b : Bool) (d : Fault) (r : Result A Fault) (y : A) → cond b r (Err d) ≡ Ok y → (b ≡ true) × (r ≡ Ok y)
passed true d r y e = (refl, e)
passed false d r y e = absurd cc

ok_is : {A : Type 0} (x y : A × List ℕ) → done x.0 x.1 ≡ done y.0 y.1 → x ≡ y
ok_is x y e = cc

-- The value and the rest stand for these bytes, and the value nests at most d deep.
pub record Found (d : ℕ) (bytes : List ℕ) (x : Tree × List ℕ) : Type 0 where
  pub front : List ℕ
  pub parts : bytes ≡ front ++ x.1
  pub spells : Spells x.0 front
  pub nests : nesting x.0 ≤ d

-- ---- runs and texts

pub record IsRun (n : ℕ) (rest : List ℕ) (x : List ℕ × List ℕ) : Type 0 where
  pub len : length x.0 ≡ n
  pub short : n ≤ max_len
  pub parts : rest ≡ x.0 ++ x.1

run_found : (left n : ℕ) (rest : List ℕ) (x : List ℕ × List ℕ) → run_at left n rest ≡ Ok x → IsRun n rest x
unfolding run_at bytes_at
run_found left n rest x e =
    let a = guard_ok (ltb max_len n) (Breaks left TooLong) (cond (ltb (length rest) n) (Err Ends) (Ok (take n rest, drop n rest))) x e in
    let b = guard_ok (ltb (length rest) n) Ends (Ok (take n rest, drop n rest)) x a.1 in
    let le : n ≤ length rest = ltb-false (length rest) n b.0 in
    let most : n ≤ max_len = ltb-false max_len n a.0 in
    subst (λ (y : List ℕ × List ℕ). IsRun n rest y) (ok_is (take n rest, drop n rest) x b.1)
    (record { len = simp length-take (omega arith); short = most; parts = sym (take-append-drop n rest) })

text_found : (left n : ℕ) (rest : List ℕ) (x : List ℕ × List ℕ) → text_at left n rest ≡ Ok x → IsRun n rest x × IsUtf8 x.0
unfolding text_at
text_found left n rest x e =
    let a = follow_ok (run_at left n rest) (λ s after. cond (is_utf8 s) (Ok (s, after)) (Err (Breaks left BadUtf8))) x e in
    let b = passed (is_utf8 a.0.0) (Breaks left BadUtf8) (Ok a.0) x a.2 in
    subst (λ (y : List ℕ × List ℕ). IsRun n rest y × IsUtf8 y.0) (ok_is a.0 x b.1) (run_found left n rest a.0 a.1, IsUtf8-from_is_utf8 a.0.0 b.0)

-- ---- what stands behind a head

pub record Behind (d : ℕ) (h : TokenHead) (rest : List ℕ) (x : Tree × List ℕ) : Type 0 where
  pub body : List ℕ
  pub parts : rest ≡ body ++ x.1
  pub spells : (head : List ℕ) → IsHead h head → Spells x.0 (head ++ body)
  pub nests : nesting x.0 ≤ d

pub record FoundAll (d n : ℕ) (rest : List ℕ) (x : List Tree × List ℕ) : Type 0 where
  pub body : List ℕ
  pub parts : rest ≡ body ++ x.1
  pub spells : SpellsAll (trees_of x.0) body
  pub counts : count (trees_of x.0) ≡ n
  pub nests : nestings (trees_of x.0) + 1 ≤ d

pub record FoundPairs (d n : ℕ) (rest : List ℕ) (x : List (List ℕ × Tree) × List ℕ) : Type 0 where
  pub body : List ℕ
  pub parts : rest ≡ body ++ x.1
  pub spells : SpellsPairs (pairs_of x.0) body
  pub counts : pair_count (pairs_of x.0) ≡ n
  pub nests : pair_nestings (pairs_of x.0) + 1 ≤ d

scalar : (d : ℕ) (h : TokenHead) (t : Tree) (rest : List ℕ) (x : Tree × List ℕ) → ((b : List ℕ) → IsHead h b → Spells t b) → nesting t ≡ 0 → done t rest ≡ Ok x → Behind d h rest x
scalar d h t rest x spelled flat e =
    subst (λ (y : Tree × List ℕ). Behind d h rest y) (ok_is (t, rest) x e)
    (record { body = []; parts = refl; spells = λ b is. rw (append-nil b) (spelled b is); nests = rw flat (omega arith) })

module _ (d : ℕ) (is : ℕ → Reader (List Tree)) (ps : ℕ → Reader (List (List ℕ × Tree)))
    (items-found : (n : ℕ) (rest : List ℕ) (y : List Tree × List ℕ) → is n rest ≡ Ok y → FoundAll d n rest y × (n ≤ max_len))
    (pairs-found : (n : ℕ) (rest : List ℕ) (y : List (List ℕ × Tree) × List ℕ) → ps n rest ≡ Ok y → FoundPairs d n rest y × (n ≤ max_len)) where
  behind_found : (left : ℕ) (h : TokenHead) (rest : List ℕ) (x : Tree × List ℕ) → behind is ps left h rest ≡ Ok x → Behind d h rest x
  unfolding behind
  behind_found left token.Nil rest x e = scalar d token.Nil nil rest x (λ b is. is) refl e
  behind_found left (token.Flag v) rest x e = scalar d (token.Flag v) (flag v) rest x (λ b is. is) refl e
  behind_found left (token.Whole z) rest x e = scalar d (token.Whole z) (whole z) rest x (λ b is. is) refl e
  behind_found left (token.Str n) rest x e =
      let a = follow_ok (text_at left n rest) (λ s. done (words s)) x e in
      let r = text_found left n rest a.0 a.1 in
      subst (λ (y : Tree × List ℕ). Behind d (token.Str n) rest y) (ok_is (words a.0.0, a.0.1) x a.2)
      (record {
        body = a.0.0;
        parts = r.0.parts;
        spells = λ head is. (record { head = head; is_head = rw r.0.len is; parts = refl }, rw r.0.len r.0.short, r.1);
        nests = omega arith;
      })
  behind_found left (token.Bin n) rest x e =
      let a = follow_ok (run_at left n rest) (λ s. done (bytes s)) x e in
      let r = run_found left n rest a.0 a.1 in
      subst (λ (y : Tree × List ℕ). Behind d (token.Bin n) rest y) (ok_is (bytes a.0.0, a.0.1) x a.2)
      (record {
        body = a.0.0;
        parts = r.parts;
        spells = λ head is. (record { head = head; is_head = rw r.len is; parts = refl }, rw r.len r.short);
        nests = omega arith;
      })
  behind_found left (token.Array n) rest x e =
      let a = follow_ok (is n rest) (λ ts. done (items (trees_of ts))) x e in
      let found = items-found n rest a.0 a.1 in
      let r = found.0 in
      subst (λ (y : Tree × List ℕ). Behind d (token.Array n) rest y) (ok_is (items (trees_of a.0.0), a.0.1) x a.2)
      (record {
        body = r.body;
        parts = r.parts;
        spells = λ head is. (r.body, record { head = head; is_head = rw r.counts is; parts = refl }, rw r.counts found.1, r.spells);
        nests = r.nests;
      })
  behind_found left (token.Map n) rest x e =
      let a = follow_ok (ps n rest) (λ ps. done (pairs (pairs_of ps))) x e in
      let found = pairs-found n rest a.0 a.1 in
      let r = found.0 in
      subst (λ (y : Tree × List ℕ). Behind d (token.Map n) rest y) (ok_is (pairs (pairs_of a.0.0), a.0.1) x a.2)
      (record {
        body = r.body;
        parts = r.parts;
        spells = λ head is. (r.body, record { head = head; is_head = rw r.counts is; parts = refl }, rw r.counts found.1, r.spells);
        nests = r.nests;
      })

-- ---- a value

module _ (d : ℕ) (is : ℕ → Reader (List Tree)) (ps : ℕ → Reader (List (List ℕ × Tree)))
    (items-found : (n : ℕ) (rest : List ℕ) (y : List Tree × List ℕ) → is n rest ≡ Ok y → FoundAll d n rest y × (n ≤ max_len))
    (pairs-found : (n : ℕ) (rest : List ℕ) (y : List (List ℕ × Tree) × List ℕ) → ps n rest ≡ Ok y → FoundPairs d n rest y × (n ≤ max_len)) where
  head_found : (s : HeadStep) (rest : List ℕ) (x : Tree × List ℕ) → head_of rest ≡ s → at_head d is ps s rest ≡ Ok x → Found d rest x
  head_found step.Short rest x h e = absurd cc
  head_found (step.Refused r) rest x h e = absurd cc
  head_found (step.Got t n) rest x h e =
      let f = head-front rest t n h in
      let b = behind_found d is ps items-found pairs-found (length rest) t (drop n rest) x e in
      record {
        front = take n rest ++ b.body;
        parts = sym (take-append-drop n rest) ∙ ap (λ (s : List ℕ). take n rest ++ s) b.parts ∙ sym (append_assoc (take n rest) b.body x.1);
        spells = b.spells (take n rest) (rw f.len f.same);
        nests = b.nests;
      }

repeat_found : (d : ℕ) (read : Reader Tree) → ((bytes : List ℕ) (x : Tree × List ℕ) → read bytes ≡ Ok x → Found d bytes x)
    → (n : ℕ) (rest : List ℕ) (y : List Tree × List ℕ) → repeat read n rest ≡ Ok y → FoundAll (suc d) n rest y
unfolding repeat
repeat_found d read reads zero rest y e =
    subst (λ (y : List Tree × List ℕ). FoundAll (suc d) 0 rest y) (ok_is ([], rest) y e) (record { body = []; parts = refl; spells = refl; counts = refl; nests = omega arith })
repeat_found d read reads (suc n) rest y e =
    let a = follow_ok (read rest) (λ x. repeat read n >>= λ xs. done (x ∷ xs)) y e in
    let b = follow_ok (repeat read n a.0.1) (λ xs. done (a.0.0 ∷ xs)) y a.2 in
    let p = reads rest a.0 a.1 in
    let q = repeat_found d read reads n a.0.1 b.0 b.1 in
    subst (λ (y : List Tree × List ℕ). FoundAll (suc d) (suc n) rest y) (ok_is (a.0.0 ∷ b.0.0, b.0.1) y b.2)
    (record {
      body = p.front ++ q.body;
      parts = p.parts ∙ ap (λ (s : List ℕ). p.front ++ s) q.parts ∙ simp append_assoc;
      spells = (p.front, q.body, refl, p.spells, q.spells);
      counts = omega (arith, q.counts);
      nests = omega (arith, p.nests, q.nests);
    })

key_found : (d : ℕ) (s : HeadStep) (rest : List ℕ) (x : List ℕ × List ℕ) → head_of rest ≡ s → key_of d s rest ≡ Ok x → (front : List ℕ) × (rest ≡ front ++ x.1) × SpellsText x.0 front
key_found d step.Short rest x h e = absurd cc
key_found d (step.Refused r) rest x h e = absurd cc
key_found d (step.Got (token.Str len) n) rest x h e =
    let f = head-front rest (token.Str len) n h in
    let r = text_found (length rest) len (drop n rest) x e in (
      take n rest ++ x.0,
      sym (take-append-drop n rest) ∙ ap (λ (s : List ℕ). take n rest ++ s) r.0.parts ∙ sym (append_assoc (take n rest) x.0 x.1),
      (record { head = take n rest; is_head = rw (r.0.len, f.len) f.same; parts = refl }, rw r.0.len r.0.short, r.1),
    )
key_found d (step.Got _ n) rest x h e = absurd cc

pair_found : (d : ℕ) (read : Reader Tree) → ((bytes : List ℕ) (x : Tree × List ℕ) → read bytes ≡ Ok x → Found d bytes x)
    → (rest : List ℕ) (y : (List ℕ × Tree) × List ℕ) → pair_at d read rest ≡ Ok y
    → (w : List ℕ) × (v : List ℕ) × (rest ≡ w ++ (v ++ y.1)) × SpellsText y.0.0 w × Spells y.0.1 v × (nesting y.0.1 ≤ d)
unfolding pair_at key_at
pair_found d read reads rest y e =
    let a = follow_ok (key_of d (head_of rest) rest) (λ k. read >>= λ x. done (k, x)) y e in
    let b = follow_ok (read a.0.1) (λ x. done (a.0.0, x)) y a.2 in
    let k = key_found d (head_of rest) rest a.0 refl a.1 in
    let v = reads a.0.1 b.0 b.1 in
    subst (λ (y : (List ℕ × Tree) × List ℕ). (w : List ℕ) × (v : List ℕ) × (rest ≡ w ++ (v ++ y.1)) × SpellsText y.0.0 w × Spells y.0.1 v × (nesting y.0.1 ≤ d))
    (ok_is ((a.0.0, b.0.0), b.0.1) y b.2)
    (k.0, v.front, k.1 ∙ ap (λ (s : List ℕ). k.0 ++ s) v.parts, k.2, v.spells, v.nests)

repeat_pairs_found : (d : ℕ) (read : Reader Tree) → ((bytes : List ℕ) (x : Tree × List ℕ) → read bytes ≡ Ok x → Found d bytes x)
    → (n : ℕ) (rest : List ℕ) (y : List (List ℕ × Tree) × List ℕ) → repeat (pair_at d read) n rest ≡ Ok y → FoundPairs (suc d) n rest y
unfolding repeat
repeat_pairs_found d read reads zero rest y e =
    subst (λ (y : List (List ℕ × Tree) × List ℕ). FoundPairs (suc d) 0 rest y) (ok_is ([], rest) y e) (record { body = []; parts = refl; spells = refl; counts = refl; nests = omega arith })
repeat_pairs_found d read reads (suc n) rest y e =
    let a = follow_ok (pair_at d read rest) (λ x. repeat (pair_at d read) n >>= λ xs. done (x ∷ xs)) y e in
    let b = follow_ok (repeat (pair_at d read) n a.0.1) (λ xs. done (a.0.0 ∷ xs)) y a.2 in
    let p = pair_found d read reads rest a.0 a.1 in
    let q = repeat_pairs_found d read reads n a.0.1 b.0 b.1 in
    subst (λ (y : List (List ℕ × Tree) × List ℕ). FoundPairs (suc d) (suc n) rest y) (ok_is (a.0.0 ∷ b.0.0, b.0.1) y b.2)
    (record {
      body = p.0 ++ (p.1 ++ q.body);
      parts = p.2 ∙ ap (λ (s : List ℕ). p.0 ++ (p.1 ++ s)) q.parts ∙ simp append_assoc;
      spells = (p.0, p.1, q.body, refl, p.3, p.4, q.spells);
      counts = omega (arith, q.counts);
      nests = omega (arith, p.5, q.nests);
    })

counted_found : {A : Type 0} (left n : ℕ) (r : Reading A) (y : A × List ℕ) → counted left n r ≡ Ok y → (r ≡ Ok y) × (n ≤ max_len)
counted_found left n r y e =
    let g = guard_ok (ltb max_len n) (Breaks left TooLong) r y e in
    (g.1, ltb-false max_len n g.0)

items_found : (d : ℕ) (read : Reader Tree) → ((bytes : List ℕ) (x : Tree × List ℕ) → read bytes ≡ Ok x → Found d bytes x)
    → (left n : ℕ) (rest : List ℕ) (y : List Tree × List ℕ) → counted_of left read n rest ≡ Ok y → FoundAll (suc d) n rest y × (n ≤ max_len)
items_found d read reads left n rest y e =
    let g = counted_found left n (repeat read n rest) y e in
    (repeat_found d read reads n rest y g.0, g.1)

pairs_found : (d : ℕ) (read : Reader Tree) → ((bytes : List ℕ) (x : Tree × List ℕ) → read bytes ≡ Ok x → Found d bytes x)
    → (left n : ℕ) (rest : List ℕ) (y : List (List ℕ × Tree) × List ℕ) → counted_of left (pair_at d read) n rest ≡ Ok y → FoundPairs (suc d) n rest y × (n ≤ max_len)
pairs_found d read reads left n rest y e =
    let g = counted_found left n (repeat (pair_at d read) n rest) y e in
    (repeat_pairs_found d read reads n rest y g.0, g.1)

no_items_found : (d n : ℕ) (left : ℕ) (rest : List ℕ) (y : List Tree × List ℕ) → too_deep {A = List Tree} left n rest ≡ Ok y → FoundAll d n rest y × (n ≤ max_len)
no_items_found d n left rest y e = absurd cc

no_pairs_found : (d n : ℕ) (left : ℕ) (rest : List ℕ) (y : List (List ℕ × Tree) × List ℕ) → too_deep {A = List (List ℕ × Tree)} left n rest ≡ Ok y → FoundPairs d n rest y × (n ≤ max_len)
no_pairs_found d n left rest y e = absurd cc

pub value_found : (d : ℕ) (rest : List ℕ) (x : Tree × List ℕ) → value_at d rest ≡ Ok x → Found d rest x
unfolding value_at
value_found zero rest x e = head_found 0 (too_deep (length rest)) (too_deep (length rest)) (λ n r y. no_items_found 0 n (length rest) r y) (λ n r y. no_pairs_found 0 n (length rest) r y) (head_of rest) rest x refl e
value_found (suc d) rest x e =
    let L = length rest in
    head_found (suc d) (counted_of L (value_at d)) (counted_of L (pair_at d (value_at d))) (items_found d (value_at d) (value_found d) L) (pairs_found d (value_at d) (value_found d) L) (head_of rest) rest x refl e
