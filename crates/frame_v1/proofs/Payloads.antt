-- How long a payload is, and where one is refused.
use Rattle.std.proofs.Common.{◌≡◌, ℕ, ◌+◌, ◌≤◌, List, length, Result, Ok, Err, ltb, subst, arith, length-drop, inl, inr}
use Rattle.std.proofs.lemmas.Bool.{ltb-false}
use Rattle.std.proofs.lemmas.List.{length-take}
use Rattle.wire_base.specs.declared.reason.Reason.{Reason}
use Rattle.wire_base.specs.declared.frame.Code.{Code}
use Rattle.wire_base.specs.declared.frame.Payload.{Payload}
use Rattle.wire_base.specs.declared.reading.Fault.{Fault}
use Rattle.wire_base.specs.declared.reading.Fault.TheVariants.{Breaks}
use Rattle.frame_text.specs.Reading.{Reading, bytes_at, plain_carried}
use Rattle.wire_base.proofs.TokenWithin.{tested}
use Rattle.frame_text.proofs.Within.{IsAmong, plain_carried-among}

-- what was taken and what is left are no more than there was
abbrev IsCut : (total : ℕ) → Reading (List ℕ) → Type 0
IsCut total (Ok x) = length x.0 + length x.1 ≤ total
IsCut total (Err fault) = Unit {0}

cut : (n : ℕ) (bytes : List ℕ) → IsCut (length bytes) (bytes_at n bytes)
unfolding bytes_at
cut n bytes = elim (tested (ltb (length bytes) n)) [
  | inl e ↦ rw e tt
  | inr e ↦ let long : n ≤ length bytes = ltb-false (length bytes) n e in rw e (omega (arith, length-take n bytes, length-drop n bytes))
]

pub bytes_at-whole : (n : ℕ) (bytes x rest : List ℕ) → bytes_at n bytes ≡ Ok (x, rest) → length x + length rest ≤ length bytes
bytes_at-whole n bytes x rest e = subst (λ (r : Reading (List ℕ)). IsCut (length bytes) r) e (cut n bytes)

pub plain_carried-left : (c : Code) (bytes : List ℕ) (left : ℕ) (reason : Reason) → plain_carried c bytes ≡ Err (Breaks left reason) → left ≤ length bytes
plain_carried-left c bytes left reason e = subst (λ (r : Result Payload Fault). IsAmong (length bytes) r) e (plain_carried-among c bytes)

pub ruleset payloads = (bytes_at-whole, plain_carried-left)
