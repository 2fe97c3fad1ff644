-- The order of what an end sends on a channel.
use Rattle.std.specs.Prelude.{◌≡◌, ℕ, List, [], ◌∷◌, ◌++◌, Bool, false, ◌||◌, Option}
use Rattle.wire_base.specs.declared.frame.Version.{Version}
use Rattle.mux_items.specs.declared.channel.ChannelKey.{ChannelKey}
use Rattle.mux_items.specs.Bodies.{OfferAccepted, ContentWritingCompleted, ChannelTerminated, ChannelFrame, frame_on, same_key, is_one, window_of}
use Rattle.mux_items.specs.Items.{Item}
use Rattle.mux_items.specs.Lists.{window}
use Rattle.mux_items.specs.Due.{sent, contents}

-- whether some frame is on the channel
abbrev pub is_on : ChannelKey → List ChannelFrame → Bool
is_on c [] = false
is_on c (f ∷ fs) = same_key f.key c || is_on c fs

-- wherever what was sent is cut: an acceptance stands before every other frame on its channel and, in versions 2 and 3, brings
-- the whole window; no content comes after the completion, and nothing after the termination
pub record IsOrdered (v : Version) (c : ChannelKey) (items : List Item) : Type 0 where
  pub acceptance_first : (size : Option ℕ) (before after : List ChannelFrame) → sent v items ≡ before ++ frame_on c (OfferAccepted size) ∷ after → is_on c before ≡ false
  pub whole_window : is_one v ≡ false → (size : Option ℕ) (before after : List ChannelFrame) → sent v items ≡ before ++ frame_on c (OfferAccepted size) ∷ after → window_of size ≡ window c items
  pub completion_last : (before after : List ChannelFrame) → sent v items ≡ before ++ frame_on c ContentWritingCompleted ∷ after → contents c after ≡ []
  pub termination_last : (before after : List ChannelFrame) → sent v items ≡ before ++ frame_on c ChannelTerminated ∷ after → is_on c after ≡ false
