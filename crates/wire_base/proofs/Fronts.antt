-- What stands at the front of bytes stands within them, and stays so whatever follows.
use Rattle.std.proofs.Common.{◌≡◌, ℕ, ◌+◌, ◌-◌, ◌≤◌, ◌<◌, List, ◌++◌, length, Ok, Err, refl, ap, arith, length-append}
use Rattle.wire_base.specs.declared.reading.Fault.TheVariants.{Ends, Breaks}
use Rattle.wire_base.specs.Tokens.{Reading}
use Rattle.wire_base.specs.Front.{Front, Whole, Short, Broken, front_of}
use Rattle.wire_base.proofs.TokenWithin.{IsProper}
use Rattle.wire_base.proofs.TokenSteady.{IsSteady}

-- nothing reaches past so many bytes
abbrev pub IsFrontBelow : {A : Type 0} → ℕ → Front A → Type 0
IsFrontBelow total (Whole x size) = size ≤ total
IsFrontBelow total Short = Unit {0}
IsFrontBelow total (Broken offset reason) = offset ≤ total

pub front_of-below : {A : Type 0} (total : ℕ) (r : Reading A) → IsFrontBelow total (front_of total r)
front_of-below total (Ok x) = omega arith
front_of-below total (Err Ends) = tt
front_of-below total (Err (Breaks left reason)) = omega arith

-- what is whole takes a byte at least besides
abbrev pub IsFrontWithin : {A : Type 0} → ℕ → Front A → Type 0
IsFrontWithin total (Whole x size) = (0 < size) × (size ≤ total)
IsFrontWithin total Short = Unit {0}
IsFrontWithin total (Broken offset reason) = offset ≤ total

pub front_of-within : {A : Type 0} (total : ℕ) (r : Reading A) → IsProper total r → IsFrontWithin total (front_of total r)
front_of-within total (Ok x) h = (omega (arith, h), omega arith)
front_of-within total (Err Ends) h = tt
front_of-within total (Err (Breaks left reason)) h = omega arith

pub within-below : {A : Type 0} (total : ℕ) (x : Front A) → IsFrontWithin total x → IsFrontBelow total x
within-below total (Whole x size) h = h.1
within-below total Short h = tt
within-below total (Broken offset reason) h = h

-- what stands at the front of some bytes, and of them with more behind them
abbrev pub IsFrontSteady : {A : Type 0} → Front A → Front A → Type 0
IsFrontSteady (Whole x size) y = y ≡ Whole x size
IsFrontSteady Short y = Unit {0}
IsFrontSteady (Broken offset reason) y = y ≡ Broken offset reason

pub front_of-steady : {A : Type 0} (total : ℕ) (more : List ℕ) (r s : Reading A) → IsSteady more r s → IsFrontSteady (front_of total r) (front_of (total + length more) s)
front_of-steady total more (Ok x) s h =
    let same : (total + length more) - length (x.1 ++ more) ≡ total - length x.1 = omega (arith, length-append x.1 more) in
    rw h (ap (λ n. Whole x.0 n) same)
front_of-steady total more (Err Ends) s h = tt
front_of-steady {A} total more (Err (Breaks left reason)) s h =
    let same : (total + length more) - (left + length more) ≡ total - left = omega arith in
    rw h (ap (λ n. let x : Front A = Broken n reason in x) same)

-- of fewer bytes than it takes there are too few to tell
pub cut_short : {A : Type 0} (x y : Front A) (value : A) (size total : ℕ) → IsFrontSteady x y → IsFrontBelow total x → y ≡ Whole value size → total < size → x ≡ Short
cut_short (Whole other n) y value size total same below e lt =
    let is : n ≡ size = cc in
    absurd (omega (arith, below))
cut_short Short y value size total same below e lt = refl
cut_short (Broken offset reason) y value size total same below e lt = absurd cc
