-- What is found in bytes as MessagePack, by spellings and by the rules on tokens.
use Rattle.std.specs.Prelude.{if◌then◌else◌, ◌==◌}
use Rattle.std.proofs.Common.{◌≡◌, ℕ, ◌<◌, Bool, true, false, List, length, take, Result, Ok, Err, refl, sym, ap, subst, ◌∙◌, arith, append-nil, take_all}
use Rattle.std.proofs.lemmas.Bool.{eq-eqb, ne_eqb, eqb-true}
use Rattle.wire_base.specs.Front.{Front, Whole, Short, Broken}
use Rattle.wire_base.specs.Tree.{Tree}
use Rattle.wire_base.specs.declared.reason.Reason.{Reason}
use Rattle.wire_base.specs.declared.reason.Reason.TheVariants.{NotOneValue}
use Rattle.pack_value.specs.Answer.{front, IsAtFront, IsUndecided}
use Rattle.pack_value.specs.Spelling.{IsSpelling}
use Rattle.pack_value.specs.Tokens.{IsRefused}
use Rattle.pack_value.proofs.Apart.{found_is, broken_is, short_is}
use Rattle.pack_value.proofs.Fronts.{at_front}
use Rattle.message_body.specs.Found.{one_value, pack_in}

module _ (b : List ℕ) where
  pub spelling_found : (t : Tree) → IsSpelling t b → pack_in b ≡ Ok t
  spelling_found t s = ap (one_value (length b)) ((found_is b t (length b)).1 (at_front t b _ b s (sym (append-nil b)))) ∙ rw (eq-eqb (length b) (length b) refl) refl

  pub longer_found : (t : Tree) (n : ℕ) → IsAtFront b t n → n < length b → pack_in b ≡ Err (n, NotOneValue)
  longer_found t n at more = ap (one_value (length b)) ((found_is b t n).1 at) ∙ rw (ne_eqb n (length b) (λ e. omega (arith, e, more))) refl

  pub broken_found : (k : ℕ) (r : Reason) → IsRefused b k r → pack_in b ≡ Err (k, r)
  broken_found k r p = ap (one_value (length b)) ((broken_is b k r).1 p)

  pub shorter_found : IsUndecided b → pack_in b ≡ Err (length b, NotOneValue)
  shorter_found p = ap (one_value (length b)) ((short_is b).1 p)

  -- a value that is found takes all of the bytes
  by_size : (u t : Tree) (n : ℕ) (c : Bool) → (n == length b) ≡ c → IsAtFront b u n → if◌then◌else◌ {A = Result Tree (ℕ × Reason)} c (Ok u) (Err (n, NotOneValue)) ≡ Ok t → IsSpelling t b
  by_size u t n true same spelled e =
      let size = eqb-true n (length b) same in
      let all : take n b ≡ b = take_all n b (omega (arith, size)) in
      let is : u ≡ t = cc in
      subst (λ (x : Tree). IsSpelling x b) is (rw all at spelled.1)
  by_size u t n false same spelled e = absurd (cc e)

  pub found_spelling : (t : Tree) → pack_in b ≡ Ok t → IsSpelling t b
  found_spelling t e = by (front b) refl e
    where
      by : (f : Front Tree) → front b ≡ f → one_value (length b) f ≡ Ok t → IsSpelling t b
      by (Whole u n) h e = by_size u t n (n == length b) refl ((found_is b u n).0 h) e
      by Short h e = absurd (cc e)
      by (Broken k r) h e = absurd (cc e)
