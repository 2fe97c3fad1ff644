-- What is read of a frame of version 2 or 3.
use Rattle.std.proofs.Common.{◌≡◌, ℕ, ◌+◌, ◌≤◌, ◌<◌, true, List, length, Ok, Err, subst, refl, arith}
use Rattle.wire_base.specs.declared.limits.TheConstants.{FRAME_BOUND}
use Rattle.wire_base.specs.declared.reason.Reason.{Reason}
use Rattle.wire_base.specs.declared.frame.Version.{Version}
use Rattle.wire_base.specs.declared.frame.Version.TheVariants as version
use Rattle.wire_base.specs.declared.frame.Frame.{Frame}
use Rattle.wire_base.specs.declared.reading.Fault.TheVariants.{Breaks}
use Rattle.frame_text.specs.Codec.{is_packed}
use Rattle.frame_text.specs.Reading.{Reading, packed_at, frame_at}
use Rattle.wire_base.proofs.TokenWithin.{IsWithin}
use Rattle.frame_text.proofs.Within.{packed_at-stops}

pub frame_at-packed : (v : Version) (bytes : List ℕ) → is_packed v ≡ true → frame_at v bytes ≡ packed_at v bytes
frame_at-packed version.One bytes e = absurd cc
frame_at-packed version.Two bytes e = refl
frame_at-packed version.Three bytes e = refl

pub packed-shorter : (v : Version) (bytes : List ℕ) (f : Frame) (rest : List ℕ) → packed_at v bytes ≡ Ok (f, rest) → length rest < length bytes
packed-shorter v bytes f rest e =
    let p : IsWithin 3 FRAME_BOUND (length bytes) (Ok (f, rest)) = subst (λ (r : Reading Frame). IsWithin 3 FRAME_BOUND (length bytes) r) e ((packed_at-stops v).at bytes) in
    omega (arith, p.0)

pub packed-left : (v : Version) (bytes : List ℕ) (left : ℕ) (reason : Reason) → packed_at v bytes ≡ Err (Breaks left reason) → (left ≤ length bytes) × (length bytes ≤ left + FRAME_BOUND)
packed-left v bytes left reason e = subst (λ (r : Reading Frame). IsWithin 3 FRAME_BOUND (length bytes) r) e ((packed_at-stops v).at bytes)

pub ruleset steps = (frame_at-packed, packed-shorter, packed-left)
