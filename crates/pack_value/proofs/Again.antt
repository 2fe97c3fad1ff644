-- What is spelled so is read.
use Rattle.std.proofs.Common.{◌≡◌, ℕ, zero, suc, ◌≤◌, Bool, true, false, cond, ltb, List, [], ◌++◌, length, take, drop, Ok, Err, refl, sym, ap, ◌∙◌, append_assoc, length-append, arith, add-one}
use Rattle.std.specs.Prelude.{IsUtf8}
use Rattle.std.specs.Str.{is_utf8}
use Rattle.std.proofs.lemmas.Str.{is_utf8-from_IsUtf8}
use Rattle.std.proofs.lemmas.Bool.{le-ltb}
use Rattle.std.proofs.lemmas.List.{append-nil, take_at, drop_at}
use Rattle.wire_base.specs.Tree.{Tree, nil, flag, whole, words, bytes, items, pairs, Trees, no_items, item, Pairs, no_pairs, pair, trees_of, pairs_of, list_of, pair_list_of}
use Rattle.wire_base.specs.declared.token.TokenHead.{TokenHead}
use Rattle.wire_base.specs.declared.token.TokenHead.TheVariants as token
use Rattle.wire_base.specs.declared.token.HeadStep.TheVariants as step
use Rattle.wire_base.specs.Head.{head_of}
use Rattle.wire_base.specs.declared.reason.Reason.TheVariants.{TooLong, BadUtf8}
use Rattle.wire_base.specs.declared.reading.Fault.TheVariants.{Ends, Breaks}
use Rattle.wire_base.specs.Tokens.{Reading, follow, done, bytes_at}
use Rattle.pack_value.specs.Reading.{counted, run_at, text_at, key_of, key_at, repeat, pair_at, behind, at_head, value_at, items_at, pairs_at}
use Rattle.wire_base.specs.Values.{nesting, nestings, pair_nestings}
use Rattle.pack_value.specs.Spelling.{IsHead, IsHeaded, SpellsText, Spells, SpellsAll, SpellsPairs, count, pair_count, max_len}
use Rattle.pack_value.proofs.Levels.{value_at-is}
use Rattle.wire_base.proofs.Back.{trees_of-list_of, pairs_of-list_of}
use Rattle.wire_base.proofs.HeadLemmas.{head_stays}

otherwise : {A : Type 0} (b : Bool) (x y : A) → b ≡ false → cond b x y ≡ y
otherwise true x y e = absurd cc
otherwise false x y e = refl

chosen : {A : Type 0} (b : Bool) (x y : A) → b ≡ true → cond b x y ≡ x
chosen true x y e = refl
chosen false x y e = absurd cc

counted_again : {A : Type 0} (left n : ℕ) (r : Reading A) → n ≤ max_len → counted left n r ≡ r
counted_again left n r le = otherwise (ltb max_len n) (Err (Breaks left TooLong)) r (le-ltb max_len n le)

run_again : (left : ℕ) (s rest : List ℕ) → length s ≤ max_len → run_at left (length s) (s ++ rest) ≡ Ok (s, rest)
unfolding run_at bytes_at
run_again left s rest le =
    counted_again left (length s) (cond (ltb (length (s ++ rest)) (length s)) (Err Ends) (Ok (take (length s) (s ++ rest), drop (length s) (s ++ rest)))) le
    ∙ otherwise (ltb (length (s ++ rest)) (length s)) (Err Ends) (Ok (take (length s) (s ++ rest), drop (length s) (s ++ rest))) (le-ltb (length (s ++ rest)) (length s) (omega (arith, length-append s rest)))
    ∙ rw (take_at s rest (length s) refl, drop_at s rest (length s) refl) refl

text_again : (left : ℕ) (s rest : List ℕ) → length s ≤ max_len → IsUtf8 s → text_at left (length s) (s ++ rest) ≡ Ok (s, rest)
unfolding text_at
text_again left s rest le u =
    rw (run_again left s rest le) (chosen (is_utf8 s) (Ok (s, rest)) (Err (Breaks left BadUtf8)) (is_utf8-from_IsUtf8 s u))

record Opened (h : TokenHead) (body b rest : List ℕ) : Type 0 where
  len : ℕ
  head : head_of (b ++ rest) ≡ step.Got h len
  after : drop len (b ++ rest) ≡ body ++ rest

opened : (h : TokenHead) (body b rest : List ℕ) → IsHeaded h body b → Opened h body b rest
opened h body b rest p =
    let regrouped : b ++ rest ≡ p.head ++ (body ++ rest) = ap (λ (s : List ℕ). s ++ rest) p.parts ∙ append_assoc p.head body rest in
    record {
      len = length p.head;
      head = ap head_of regrouped ∙ head_stays p.head (body ++ rest) h (length p.head) p.is_head;
      after = ap (λ (s : List ℕ). drop (length p.head) s) regrouped ∙ drop_at p.head (body ++ rest) (length p.head) refl;
    }

alone : (h : TokenHead) (b : List ℕ) → IsHead h b → IsHeaded h [] b
alone h b is = record { head = b; is_head = is; parts = sym (append-nil b) }

behind_again : (d : ℕ) (h : TokenHead) (body b rest : List ℕ) → IsHeaded h body b
    → value_at d (b ++ rest) ≡ behind (items_at d (length (b ++ rest))) (pairs_at d (length (b ++ rest))) (length (b ++ rest)) h (body ++ rest)
behind_again d h body b rest p =
    let o = opened h body b rest p in
    let L = length (b ++ rest) in
    value_at-is d (b ++ rest) ∙ ap (λ s. at_head d (items_at d L) (pairs_at d L) s (b ++ rest)) o.head ∙ ap (λ (s : List ℕ). behind (items_at d L) (pairs_at d L) L h s) o.after

key_again : (d : ℕ) (s b rest : List ℕ) → SpellsText s b → key_at d (b ++ rest) ≡ Ok (s, rest)
unfolding key_at
key_again d s b rest p =
    let o = opened (token.Str (length s)) s b rest p.0 in
    ap (λ x. key_of d x (b ++ rest)) o.head ∙ ap (λ (r : List ℕ). text_at (length (b ++ rest)) (length s) r) o.after ∙ text_again (length (b ++ rest)) s rest p.1 p.2

mutual
  unfolding behind items_at pairs_at repeat pair_at

  pub value_again : (t : Tree) (d : ℕ) (b rest : List ℕ) → Spells t b → nesting t ≤ d → value_at d (b ++ rest) ≡ Ok (t, rest)
  value_again nil d b rest p le = behind_again d token.Nil [] b rest (alone token.Nil b p)
  value_again (flag v) d b rest p le = behind_again d (token.Flag v) [] b rest (alone (token.Flag v) b p)
  value_again (whole z) d b rest p le = behind_again d (token.Whole z) [] b rest (alone (token.Whole z) b p)
  value_again (words s) d b rest p le =
      behind_again d (token.Str (length s)) s b rest p.0 ∙ rw (text_again (length (b ++ rest)) s rest p.1 p.2) refl
  value_again (bytes s) d b rest p le =
      behind_again d (token.Bin (length s)) s b rest p.0 ∙ rw (run_again (length (b ++ rest)) s rest p.1) refl
  value_again (items ts) zero b rest p le = absurd (omega (arith, le))
  value_again (items ts) (suc d) b rest p le =
      behind_again (suc d) (token.Array (count ts)) p.0 b rest p.1
      ∙ ap (λ r. follow r (λ ts. done (items (trees_of ts)))) (counted_again (length (b ++ rest)) (count ts) (repeat (value_at d) (count ts) (p.0 ++ rest)) p.2)
      ∙ rw (items_again ts d p.0 rest p.3 (omega (arith, le)), trees_of-list_of ts) refl
  value_again (pairs ps) zero b rest p le = absurd (omega (arith, le))
  value_again (pairs ps) (suc d) b rest p le =
      behind_again (suc d) (token.Map (pair_count ps)) p.0 b rest p.1
      ∙ ap (λ r. follow r (λ ps. done (pairs (pairs_of ps)))) (counted_again (length (b ++ rest)) (pair_count ps) (repeat (pair_at d (value_at d)) (pair_count ps) (p.0 ++ rest)) p.2)
      ∙ rw (pairs_again ps d p.0 rest p.3 (omega (arith, le)), pairs_of-list_of ps) refl

  items_again : (ts : Trees) (d : ℕ) (b rest : List ℕ) → SpellsAll ts b → nestings ts ≤ d → repeat (value_at d) (count ts) (b ++ rest) ≡ Ok (list_of ts, rest)
  items_again no_items d b rest p le = rw p refl
  items_again (item t ts) d b rest p le =
      let regrouped : b ++ rest ≡ p.0 ++ (p.1 ++ rest) = ap (λ (s : List ℕ). s ++ rest) p.2 ∙ append_assoc p.0 p.1 rest in
      rw (add-one (count ts), regrouped, value_again t d p.0 (p.1 ++ rest) p.3 (omega (arith, le)), items_again ts d p.1 rest p.4 (omega (arith, le))) refl

  pairs_again : (ps : Pairs) (d : ℕ) (b rest : List ℕ) → SpellsPairs ps b → pair_nestings ps ≤ d → repeat (pair_at d (value_at d)) (pair_count ps) (b ++ rest) ≡ Ok (pair_list_of ps, rest)
  pairs_again no_pairs d b rest p le = rw p refl
  pairs_again (pair k t ps) d b rest p le =
      let regrouped : b ++ rest ≡ p.0 ++ (p.1 ++ (p.2 ++ rest)) = rw p.3 (simp append_assoc) in
      rw (add-one (pair_count ps), regrouped, key_again d k p.0 (p.1 ++ (p.2 ++ rest)) p.4, value_again t d p.1 (p.2 ++ rest) p.5 (omega (arith, le)), pairs_again ps d p.2 rest p.6 (omega (arith, le))) refl
