-- What fits in version 1.
use Rattle.std.proofs.Common.{◌≡◌, ◌≤◌, ◌<◌, true, length, append_assoc}
use Rattle.std.proofs.lemmas.Bool.{and_parts, leb-true, ltb-true}
use Rattle.wire_base.specs.declared.limits.TheConstants.{MAX_PLAIN_PAYLOAD, PLAIN_ID_LIMIT}
use Rattle.wire_base.specs.declared.frame.Version.TheVariants as version
use Rattle.wire_base.specs.declared.frame.Frame.{Frame}
use Rattle.frame_text.specs.Frames.{fits, plain_payload}

pub fits-length : (f : Frame) → fits version.One f ≡ true → length (plain_payload f.payload) ≤ MAX_PLAIN_PAYLOAD
fits-length f e = leb-true (length (plain_payload f.payload)) MAX_PLAIN_PAYLOAD (and_parts _ _ e).1

pub fits-id : (f : Frame) → fits version.One f ≡ true → f.id < PLAIN_ID_LIMIT
fits-id f e = ltb-true f.id PLAIN_ID_LIMIT (and_parts _ _ (and_parts _ _ (and_parts _ _ (and_parts _ _ e).0).0).1).1

pub ruleset writing = (fits-length, fits-id, append_assoc)
