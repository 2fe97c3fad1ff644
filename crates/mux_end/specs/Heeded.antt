-- What a frame that is read says within its ranges.
use Rattle.std.specs.Prelude.{◌≡◌, ◌≤◌, ◌<◌, length, true}
use Rattle.wire_base.specs.declared.limits.TheConstants.{COUNT_LIMIT, MAX_PAYLOAD}
use Rattle.frame_text.specs.Frames.{is_count}
use Rattle.mux_items.specs.Bodies.{FrameBody, Offer, OfferAccepted, Content, ContentWritingCompleted, ChannelTerminated, ContentProcessed}

-- windows and counts are below the limit, and content is no longer than a payload may be
abbrev pub IsInRange : FrameBody → Type 0
IsInRange (Offer name window) = is_count window ≡ true
IsInRange (OfferAccepted window) = is_count window ≡ true
IsInRange (Content bytes) = length bytes ≤ MAX_PAYLOAD
IsInRange ContentWritingCompleted = Unit {0}
IsInRange ChannelTerminated = Unit {0}
IsInRange (ContentProcessed count) = count < COUNT_LIMIT
