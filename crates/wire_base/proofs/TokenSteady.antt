-- What was read stays so, whatever follows.
use Rattle.std.proofs.Common.{◌≡◌, ℕ, ◌+◌, ◌≤◌, false, ltb, List, [], ◌∷◌, ◌++◌, length, take, drop, Option, Some, None, Result, Ok, Err, refl, sym, ap, subst, ◌∙◌, arith, length-append, add_assoc, inl, inr, ◌⊎◌}
use Rattle.std.specs.Int.{Width, byte_len, from_be_bytes}
use Rattle.std.proofs.lemmas.Bool.{ltb-false, le-ltb}
use Rattle.std.proofs.lemmas.List.{take-append-le, drop-append-le}
use Rattle.wire_base.specs.Head.{Kind, kind_of, head_of, read_kind}
use Rattle.wire_base.specs.declared.token.HeadStep.{HeadStep}
use Rattle.wire_base.specs.declared.token.HeadStep.TheVariants as step
use Rattle.wire_base.specs.declared.reason.Reason.{Reason}
use Rattle.wire_base.specs.declared.reading.Fault.{Fault}
use Rattle.wire_base.specs.declared.reading.Fault.TheVariants.{Ends, Breaks}
use Rattle.wire_base.specs.Tokens.{Reading, Reader, follow, ◌>>=◌, done, Sort, unfinished, allowed, headed, head_at, token_at, field_at, bytes_at, placed}
use Rattle.wire_base.proofs.HeadLemmas.{head_within, head_stays, refused_stays, kind_unfinished}
use Rattle.wire_base.proofs.TokenSorts.{IsSort}
use Rattle.wire_base.proofs.TokenWithin.{tested}

-- what was read of some bytes, and what is read of them with more behind them
abbrev pub IsSteady : {A : Type 0} → (more : List ℕ) → Reading A → Reading A → Type 0
IsSteady more (Ok x) s = s ≡ Ok (x.0, x.1 ++ more)
IsSteady more (Err Ends) s = Unit {0}
IsSteady more (Err (Breaks left reason)) s = s ≡ Err (Breaks (left + length more) reason)

pub record Steady {A : Type 0} (read : Reader A) : Type 0 where
  pub at : (bytes more : List ℕ) → IsSteady more (read bytes) (read (bytes ++ more))

pub follow-steady : {A B : Type 0} (more : List ℕ) (r s : Reading A) (next : A → Reader B) → IsSteady more r s → ((x : A) → Steady (next x)) → IsSteady more (follow r next) (follow s next)
follow-steady {A} {B} more (Ok x) s next h n = subst (λ (t : Reading A). IsSteady more (next x.0 x.1) (follow t next)) (sym h) ((n x.0).at x.1 more)
follow-steady more (Err Ends) s next h n = tt
follow-steady more (Err (Breaks left reason)) s next h n = ap (λ t. follow t next) h

pub steady-then : {A B : Type 0} (read : Reader A) (next : A → Reader B) → Steady read → ((x : A) → Steady (next x)) → Steady (read >>= next)
steady-then read next h n = record { at = λ bytes more. follow-steady more (read bytes) (read (bytes ++ more)) next (h.at bytes more) n }

pub steady-done : {A : Type 0} (x : A) → Steady (done x)
steady-done x = record { at = λ bytes more. refl }

module _ {A : Type 0} (sort : Sort A) (reason : Reason) (is_sort : IsSort sort) where
  -- a first byte that begins other token of the sort
  spoiled-steady : (k : Kind) (rest more all : List ℕ) → sort.begins k ≡ false → read_kind k rest ≡ step.Short → (s : HeadStep) → read_kind k more ≡ s → headed sort reason s all ≡ Err (Breaks (length all) reason) ⊎ (s ≡ step.Short)
  spoiled-steady k rest more all other short (step.Short) e = inr refl
  spoiled-steady k rest more all other short (step.Refused r) e = absurd (kind_unfinished k rest more r short e)
  spoiled-steady k rest more all other short (step.Got h n) e = inl (rw (is_sort.others k more h n other e) refl)

  unfinished-steady : (bytes more : List ℕ) → head_of bytes ≡ step.Short → IsSteady more (unfinished sort reason bytes) (headed sort reason (head_of (bytes ++ more)) (bytes ++ more))
  unfinished-steady [] more e = tt
  unfinished-steady (b ∷ rest) more e =
      let all = b ∷ (rest ++ more) in
      elim (tested (sort.begins (kind_of b))) [
        | inl begins ↦ rw begins tt
        | inr other ↦
            let longer : length all ≡ length (b ∷ rest) + length more = omega (arith, length-append rest more) in
            elim (spoiled-steady (kind_of b) rest (rest ++ more) all other e (head_of all) refl) [
              | inl broken ↦ rw other (broken ∙ ap (λ n. Err (Breaks n reason)) longer)
              | inr short ↦ rw (other, short) (rw other (ap (λ n. Err (Breaks n reason)) longer))
            ]
      ]

  headed-steady : (s : HeadStep) (bytes more : List ℕ) → head_of bytes ≡ s → IsSteady more (headed sort reason s bytes) (headed sort reason (head_of (bytes ++ more)) (bytes ++ more))
  headed-steady step.Short bytes more e = unfinished-steady bytes more e
  headed-steady (step.Refused r) bytes more e = rw (refused_stays bytes more r e) (ap (λ n. Err (Breaks n r)) (length-append bytes more))
  headed-steady (step.Got h n) bytes more e =
      let z = head_within bytes h n e in
      rw (head_stays bytes more h n e) (elim (sort.says h) as (λ o. IsSteady more (allowed (length bytes) reason o (drop n bytes)) (allowed (length (bytes ++ more)) reason o (drop n (bytes ++ more)))) [
        | None ↦ ap (λ n. Err (Breaks n reason)) (length-append bytes more)
        | Some x ↦ ap (λ (s : List ℕ). Ok (x, s)) (drop-append-le n bytes more z.1)
      ])

  pub head_at-steady : Steady (head_at sort reason)
  unfolding head_at
  head_at-steady = record { at = λ bytes more. headed-steady (head_of bytes) bytes more refl }

pub allowed-steady : {A B : Type 0} (make : A → Option B) (reason : Reason) (total : ℕ) (more : List ℕ) (r s : Reading A) → IsSteady more r s → IsSteady more (follow r (λ x. allowed total reason (make x))) (follow s (λ x. allowed (total + length more) reason (make x)))
allowed-steady {A} {B} make reason total more (Ok x) s h = rw h (elim (make x.0) as (λ (o : Option B). IsSteady more (allowed total reason o x.1) (allowed (total + length more) reason o (x.1 ++ more))) [ None ↦ refl | Some y ↦ refl ])
allowed-steady make reason total more (Err Ends) s h = tt
allowed-steady make reason total more (Err (Breaks left r)) s h = rw h refl

pub token_at-steady : {A B : Type 0} (sort : Sort A) (make : A → Option B) (reason : Reason) → IsSort sort → Steady (token_at sort make reason)
unfolding token_at
token_at-steady sort make reason is_sort = record {
  at = λ bytes more. rw (length-append bytes more) (allowed-steady make reason (length bytes) more (head_at sort reason bytes) (head_at sort reason (bytes ++ more)) ((head_at-steady sort reason is_sort).at bytes more));
}

-- ---- fields of a fixed width

pub field_at-steady : {B : Type 0} (w : Width) (make : ℕ → Option B) (reason : Reason) → Steady (field_at w make reason)
unfolding field_at
field_at-steady {B} w make reason = record {
  at = λ bytes more.
      let k = byte_len w in
      elim (tested (ltb (length bytes) k)) [
        | inl e ↦ rw e tt
        | inr e ↦
            let long : k ≤ length bytes = ltb-false (length bytes) k e in
            let still : ltb (length (bytes ++ more)) k ≡ false = le-ltb (length (bytes ++ more)) k (omega (arith, length-append bytes more)) in
            rw (e, still, take-append-le k bytes more long, drop-append-le k bytes more long)
            (elim (make (from_be_bytes w (take k bytes))) as (λ (o : Option B). IsSteady more (allowed (length bytes) reason o (drop k bytes)) (allowed (length (bytes ++ more)) reason o (drop k bytes ++ more))) [
              | None ↦ ap (λ n. Err (Breaks n reason)) (length-append bytes more)
              | Some x ↦ refl
            ])
      ];
}

pub bytes_at-steady : (n : ℕ) → Steady (bytes_at n)
unfolding bytes_at
bytes_at-steady n = record {
  at = λ bytes more.
      elim (tested (ltb (length bytes) n)) [
        | inl e ↦ rw e tt
        | inr e ↦
            let long : n ≤ length bytes = ltb-false (length bytes) n e in
            let still : ltb (length (bytes ++ more)) n ≡ false = le-ltb (length (bytes ++ more)) n (omega (arith, length-append bytes more)) in
            rw (e, still, take-append-le n bytes more long, drop-append-le n bytes more long) refl
      ];
}

-- ---- what stands behind

pub placed-steady : {A : Type 0} (r : Result A Fault) → Steady (placed r)
placed-steady (Ok x) = record { at = λ bytes more. refl }
placed-steady (Err Ends) = record { at = λ bytes more. tt }
placed-steady (Err (Breaks left reason)) = record {
  at = λ bytes more. ap (λ n. Err (Breaks n reason)) (ap (λ n. left + n) (length-append bytes more) ∙ sym (add_assoc left (length bytes) (length more)));
}
