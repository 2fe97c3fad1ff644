-- Sums over frames on one channel.
use Rattle.std.specs.Prelude.{ℕ, ◌+◌, List, [], ◌∷◌, if◌then◌else◌}
use Rattle.mux_items.specs.declared.channel.ChannelKey.{ChannelKey}
use Rattle.mux_items.specs.Bodies.{FrameBody, Offer, OfferAccepted, ContentProcessed, ChannelFrame, same_key, window_of}

-- the window that an offer or an acceptance gives
abbrev pub window_in : FrameBody → ℕ
window_in (Offer name size) = window_of size
window_in (OfferAccepted size) = window_of size
window_in body = 0

-- the bytes that a frame acknowledges
abbrev pub credit_in : FrameBody → ℕ
credit_in (ContentProcessed count) = count
credit_in body = 0

-- an amount of a frame, where it is on this channel
abbrev pub amount_on : (FrameBody → ℕ) → ChannelKey → ChannelFrame → ℕ
amount_on amount c f = if same_key f.key c then amount f.body else 0

-- an amount of all frames on a channel together
abbrev pub total : (FrameBody → ℕ) → ChannelKey → List ChannelFrame → ℕ
total amount c [] = 0
total amount c (f ∷ fs) = amount_on amount c f + total amount c fs

-- all windows that frames on a channel give
abbrev pub windows : ChannelKey → List ChannelFrame → ℕ
windows c frames = total window_in c frames

-- all bytes that frames on a channel acknowledge
abbrev pub credits : ChannelKey → List ChannelFrame → ℕ
credits c frames = total credit_in c frames
