-- A reading stops within the bytes that it was given, and near their front.
use Rattle.std.proofs.Common.{◌≡◌, ℕ, ◌+◌, ◌≤◌, ◌<◌, Bool, true, false, cond, ltb, List, [], ◌∷◌, length, take, drop, Option, Some, None, Ok, Err, refl, arith, length-drop, ◌⊎◌, inl, inr}
use Rattle.std.specs.Int.{Width, byte_len, from_be_bytes}
use Rattle.std.proofs.lemmas.Bool.{ltb-false}
use Rattle.std.proofs.lemmas.List.{length-take}
use Rattle.wire_base.specs.Head.{kind_of, head_of}
use Rattle.wire_base.specs.declared.token.HeadStep.{HeadStep}
use Rattle.wire_base.specs.declared.token.HeadStep.TheVariants as step
use Rattle.wire_base.specs.declared.reason.Reason.{Reason}
use Rattle.wire_base.specs.declared.reading.Fault.TheVariants.{Ends, Breaks}
use Rattle.wire_base.specs.Tokens.{Reading, Reader, follow, ◌>>=◌, done, Sort, unfinished, allowed, headed, head_at, token_at, inside, inner_at, field_at, bytes_at}
use Rattle.wire_base.proofs.HeadLemmas.{head_within, head_most, byte_len_most}

-- which way a test goes
pub tested : (b : Bool) → (b ≡ true) ⊎ (b ≡ false)
tested true = inl refl
tested false = inr refl

-- at least so many bytes are taken, and at most so many
abbrev pub IsWithin : {A : Type 0} → (least most total : ℕ) → Reading A → Type 0
IsWithin least most total (Ok x) = (length x.1 + least ≤ total) × (total ≤ length x.1 + most)
IsWithin least most total (Err Ends) = Unit {0}
IsWithin least most total (Err (Breaks left reason)) = (left ≤ total) × (total ≤ left + most)

pub record Stops {A : Type 0} (least most : ℕ) (read : Reader A) : Type 0 where
  pub at : (bytes : List ℕ) → IsWithin least most (length bytes) (read bytes)

shifted : {A : Type 0} (least most l m total front : ℕ) (r : Reading A) → front + least ≤ total → total ≤ front + most → IsWithin l m front r → IsWithin (least + l) (most + m) total r
shifted least most l m total front (Ok x) a b h = (omega (arith, h.0), omega (arith, h.1))
shifted least most l m total front (Err Ends) a b h = tt
shifted least most l m total front (Err (Breaks left reason)) a b h = (omega (arith, h.0), omega (arith, h.1))

pub follow-within : {A B : Type 0} (least most l m total : ℕ) (r : Reading A) (next : A → Reader B) → IsWithin least most total r → ((x : A) → Stops l m (next x)) → IsWithin (least + l) (most + m) total (follow r next)
follow-within least most l m total (Ok x) next h n = shifted least most l m total (length x.1) (next x.0 x.1) h.0 h.1 ((n x.0).at x.1)
follow-within least most l m total (Err Ends) next h n = tt
follow-within least most l m total (Err (Breaks left reason)) next h n = (h.0, omega (arith, h.1))

pub stops-then : {A B : Type 0} (least most l m : ℕ) (read : Reader A) (next : A → Reader B) → Stops least most read → ((x : A) → Stops l m (next x)) → Stops (least + l) (most + m) (read >>= next)
stops-then least most l m read next h n = record { at = λ bytes. follow-within least most l m (length bytes) (read bytes) next (h.at bytes) n }

pub stops-done : {A : Type 0} (x : A) → Stops 0 0 (done x)
stops-done x = record { at = λ bytes. (omega arith, omega arith) }

module _ {A : Type 0} (sort : Sort A) (reason : Reason) where
  unfinished-within : (bytes : List ℕ) → IsWithin {A = A} 1 17 (length bytes) (unfinished sort reason bytes)
  unfinished-within [] = tt
  unfinished-within (b ∷ rest) = elim (sort.begins (kind_of b)) as (λ t. IsWithin {A = A} 1 17 (length (b ∷ rest)) (cond t (Err Ends) (Err (Breaks (length (b ∷ rest)) reason)))) [ true ↦ tt | false ↦ (omega arith, omega arith) ]

  headed-within : (s : HeadStep) (bytes : List ℕ) → head_of bytes ≡ s → IsWithin 1 17 (length bytes) (headed sort reason s bytes)
  headed-within step.Short bytes e = unfinished-within bytes
  headed-within (step.Refused r) bytes e = (omega arith, omega arith)
  headed-within (step.Got h n) bytes e =
      let z = head_within bytes h n e in
      elim (sort.says h) as (λ o. IsWithin 1 17 (length bytes) (allowed (length bytes) reason o (drop n bytes))) [
        | None ↦ (omega arith, omega arith)
        | Some x ↦ (omega (arith, z.0, z.1, length-drop n bytes), omega (arith, head_most bytes h n e, length-drop n bytes))
      ]

  pub head_at-stops : Stops 1 17 (head_at sort reason)
  unfolding head_at
  head_at-stops = record { at = λ bytes. headed-within (head_of bytes) bytes refl }

pub allowed-within : {A B : Type 0} (make : A → Option B) (reason : Reason) (total : ℕ) (r : Reading A) → IsWithin 1 17 total r → IsWithin 1 17 total (follow r (λ x. allowed total reason (make x)))
allowed-within {A} {B} make reason total (Ok x) h = elim (make x.0) as (λ o. IsWithin 1 17 total (allowed total reason o x.1)) [ None ↦ (omega arith, omega arith) | Some y ↦ h ]
allowed-within make reason total (Err Ends) h = tt
allowed-within make reason total (Err (Breaks left r)) h = h

inside-within : {A : Type 0} (reason : Reason) (total : ℕ) (r : Reading A) → IsWithin 1 17 total r → IsWithin 1 17 total (inside total reason r)
inside-within reason total (Ok x) h = h
inside-within reason total (Err Ends) h = (omega arith, omega arith)
inside-within reason total (Err (Breaks left r)) h = h

module _ {A B : Type 0} (sort : Sort A) (make : A → Option B) (reason : Reason) where
  pub token_at-stops : Stops 1 17 (token_at sort make reason)
  unfolding token_at
  token_at-stops = record { at = λ bytes. allowed-within make reason (length bytes) (head_at sort reason bytes) ((head_at-stops sort reason).at bytes) }

  pub inner_at-stops : Stops 1 17 (inner_at sort make reason)
  unfolding inner_at
  inner_at-stops = record { at = λ bytes. inside-within reason (length bytes) (token_at sort make reason bytes) (token_at-stops.at bytes) }

-- nothing is read past the end
abbrev pub IsBelow : {A : Type 0} → ℕ → Reading A → Type 0
IsBelow total (Ok x) = length x.1 ≤ total
IsBelow total (Err Ends) = Unit {0}
IsBelow total (Err (Breaks left reason)) = left ≤ total

pub record Ends-below {A : Type 0} (read : Reader A) : Type 0 where
  pub at : (bytes : List ℕ) → IsBelow (length bytes) (read bytes)

below-from : {A : Type 0} (least most total : ℕ) (r : Reading A) → IsWithin least most total r → IsBelow total r
below-from least most total (Ok x) h = omega (arith, h.0)
below-from least most total (Err Ends) h = tt
below-from least most total (Err (Breaks left reason)) h = h.0

pub below-stops : {A : Type 0} (least most : ℕ) (read : Reader A) → Stops least most read → Ends-below read
below-stops least most read h = record { at = λ bytes. below-from least most (length bytes) (read bytes) (h.at bytes) }

pub lower : {A : Type 0} (front total : ℕ) (r : Reading A) → front ≤ total → IsBelow front r → IsBelow total r
lower front total (Ok x) a h = omega (arith, h)
lower front total (Err Ends) a h = tt
lower front total (Err (Breaks left reason)) a h = omega (arith, h)

follow-below : {A B : Type 0} (total : ℕ) (r : Reading A) (next : A → Reader B) → IsBelow total r → ((x : A) → Ends-below (next x)) → IsBelow total (follow r next)
follow-below total (Ok x) next h n = lower (length x.1) total (next x.0 x.1) h ((n x.0).at x.1)
follow-below total (Err Ends) next h n = tt
follow-below total (Err (Breaks left reason)) next h n = h

pub below-then : {A B : Type 0} (read : Reader A) (next : A → Reader B) → Ends-below read → ((x : A) → Ends-below (next x)) → Ends-below (read >>= next)
below-then read next h n = record { at = λ bytes. follow-below (length bytes) (read bytes) next (h.at bytes) n }

pub below-done : {A : Type 0} (x : A) → Ends-below (done x)
below-done x = record { at = λ bytes. omega arith }

pub inner_at-below : {A B : Type 0} (sort : Sort A) (make : A → Option B) (reason : Reason) → Ends-below (inner_at sort make reason)
inner_at-below sort make reason = below-stops 1 17 (inner_at sort make reason) (inner_at-stops sort make reason)

-- ---- fields of a fixed width

field_at-within : {B : Type 0} (w : Width) (make : ℕ → Option B) (reason : Reason) (bytes : List ℕ) → 0 < byte_len w → IsWithin 1 17 (length bytes) (field_at w make reason bytes)
unfolding field_at
field_at-within {B} w make reason bytes some =
    let value = make (from_be_bytes w (take (byte_len w) bytes)) in
    elim (tested (ltb (length bytes) (byte_len w))) [
      | inl e ↦ rw e tt
      | inr e ↦
          let long : byte_len w ≤ length bytes = ltb-false (length bytes) (byte_len w) e in
          rw e (elim value as (λ o. IsWithin 1 17 (length bytes) (allowed (length bytes) reason o (drop (byte_len w) bytes))) [
            | None ↦ (omega arith, omega arith)
            | Some x ↦ (omega (arith, length-drop (byte_len w) bytes), omega (arith, length-drop (byte_len w) bytes, byte_len_most w))
          ])
    ]

pub field_at-stops : {B : Type 0} (w : Width) (make : ℕ → Option B) (reason : Reason) → 0 < byte_len w → Stops 1 17 (field_at w make reason)
field_at-stops w make reason some = record { at = λ bytes. field_at-within w make reason bytes some }

pub field_at-below : {B : Type 0} (w : Width) (make : ℕ → Option B) (reason : Reason) → 0 < byte_len w → Ends-below (field_at w make reason)
field_at-below w make reason some = below-stops 1 17 (field_at w make reason) (field_at-stops w make reason some)

-- what was taken and what is left are what there was
abbrev pub IsCut : (total : ℕ) → Reading (List ℕ) → Type 0
IsCut total (Ok x) = length x.0 + length x.1 ≡ total
IsCut total (Err Ends) = Unit {0}
IsCut total (Err (Breaks left reason)) = ⊥

pub bytes_at-is : (n : ℕ) (bytes : List ℕ) → IsCut (length bytes) (bytes_at n bytes)
unfolding bytes_at
bytes_at-is n bytes =
    elim (tested (ltb (length bytes) n)) [
      | inl e ↦ rw e tt
      | inr e ↦ let long : n ≤ length bytes = ltb-false (length bytes) n e in rw e (omega (arith, length-take n bytes, length-drop n bytes))
    ]

-- ---- something whole

-- a byte at least is taken, and a fault is among the bytes
abbrev pub IsProper : {A : Type 0} → ℕ → Reading A → Type 0
IsProper total (Ok x) = length x.1 < total
IsProper total (Err Ends) = Unit {0}
IsProper total (Err (Breaks left reason)) = left ≤ total

pub proper-from : {A : Type 0} (least most total : ℕ) (r : Reading A) → 0 < least → IsWithin least most total r → IsProper total r
proper-from least most total (Ok x) some h = omega (arith, h.0)
proper-from least most total (Err Ends) some h = tt
proper-from least most total (Err (Breaks left reason)) some h = h.0

pub proper-lower : {A : Type 0} (front total : ℕ) (r : Reading A) → front < total → IsBelow front r → IsProper total r
proper-lower front total (Ok x) a h = omega (arith, h)
proper-lower front total (Err Ends) a h = tt
proper-lower front total (Err (Breaks left reason)) a h = omega (arith, h)

pub proper-follow : {A B : Type 0} (total : ℕ) (r : Reading A) (next : A → Reader B) → IsWithin 1 17 total r → ((x : A) → Ends-below (next x)) → IsProper total (follow r next)
proper-follow total (Ok x) next h n = proper-lower (length x.1) total (next x.0 x.1) (omega (arith, h.0)) ((n x.0).at x.1)
proper-follow total (Err Ends) next h n = tt
proper-follow total (Err (Breaks left reason)) next h n = h.0
