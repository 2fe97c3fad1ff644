-- How long texts are, and what fits in versions 2 and 3.
use Rattle.std.proofs.Common.{◌≡◌, true, length, refl, length-append}
use Rattle.std.specs.Prelude.{◌&&◌, nat_le}
use Rattle.std.proofs.lemmas.Str.{is_utf8-from_IsUtf8}
use Rattle.wire_base.specs.declared.limits.TheConstants.{MAX_PAYLOAD}
use Rattle.wire_base.specs.declared.frame.Version.{Version}
use Rattle.wire_base.specs.declared.frame.Version.TheVariants as version
use Rattle.wire_base.specs.declared.frame.Frame.{Frame}
use Rattle.frame_text.specs.Codec.{is_packed}
use Rattle.frame_text.specs.Frames.{fits, fits_code, fits_id, fits_origin, payload_text}

pub ruleset lengths = (length-append)

pub ruleset texts = (is_utf8-from_IsUtf8)

pub fits-packed : (v : Version) (f : Frame) → is_packed v ≡ true →
    fits v f ≡ (fits_code version.Two f.code f.payload && fits_id version.Two f.id && fits_origin v f.origin && nat_le (length (payload_text f.payload)) MAX_PAYLOAD)
fits-packed version.One f e = absurd cc
fits-packed version.Two f e = refl
fits-packed version.Three f e = refl

pub ruleset fitting = (fits-packed)
