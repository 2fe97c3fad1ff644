-- What is read of a frame of version 1.
use Rattle.std.proofs.Common.{◌≡◌, ℕ, ◌≤◌, ◌<◌, List, length, Ok, Err, subst}
use Rattle.wire_base.specs.declared.reason.Reason.{Reason}
use Rattle.wire_base.specs.declared.frame.Version.TheVariants as version
use Rattle.wire_base.specs.declared.frame.Frame.{Frame}
use Rattle.wire_base.specs.declared.reading.Fault.TheVariants.{Breaks}
use Rattle.frame_text.specs.Reading.{Reading, plain_at}
use Rattle.wire_base.proofs.TokenWithin.{IsProper}
use Rattle.frame_text.proofs.Within.{frame_at-proper}

pub plain-shorter : (bytes : List ℕ) (f : Frame) (rest : List ℕ) → plain_at bytes ≡ Ok (f, rest) → length rest < length bytes
plain-shorter bytes f rest e = subst (λ (r : Reading Frame). IsProper (length bytes) r) e (frame_at-proper version.One bytes)

pub plain-left : (bytes : List ℕ) (left : ℕ) (reason : Reason) → plain_at bytes ≡ Err (Breaks left reason) → left ≤ length bytes
plain-left bytes left reason e = subst (λ (r : Reading Frame). IsProper (length bytes) r) e (frame_at-proper version.One bytes)

pub ruleset steps = (plain-shorter, plain-left)
