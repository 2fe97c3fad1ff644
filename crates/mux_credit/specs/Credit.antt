-- What holds of a channel between two ends, in versions 2 and 3 or in all.
use Rattle.std.specs.Prelude.{◌≡◌, ◌≤◌, ◌+◌, ◌-◌, ℕ, List, ◌∷◌, length, true, false, None}
use Rattle.wire_base.specs.declared.frame.Version.{Version}
use Rattle.mux_items.specs.declared.channel.ChannelKey.{ChannelKey}
use Rattle.mux_items.specs.Bodies.{ChannelFrame, other_key, flip, is_one}
use Rattle.mux_items.specs.Items.{Item, is_running}
use Rattle.mux_items.specs.Lists.{written, window, emitted, acknowledged, granted, taken, handed, unread, termination_emitted, is_live}
use Rattle.mux_items.specs.Due.{contents}
use Rattle.mux_items.specs.Refusals.{frame_refusal}
use Rattle.mux_items.specs.Sums.{credits}
use Rattle.mux_run.specs.Between.{ahead}

-- the credit that y holds: what is granted and not emitted
abbrev pub unspent : Version → ChannelKey → List Item → ℕ
unspent v c y = granted v c y - emitted v c y

-- the bytes on their way to x on its channel c
abbrev pub content_in_flight : Version → ChannelKey → (x y : List Item) → ℕ
content_in_flight v c x y = length (contents (other_key c) (ahead v x y))

-- the bytes that x acknowledged on its channel c, where that isn't applied at y
abbrev pub acknowledgements_in_flight : Version → ChannelKey → (x y : List Item) → ℕ
acknowledgements_in_flight v c x y = credits c (ahead v y x)

-- where the credit of x's channel c is: unspent at y, or on its way as content, or unread at x, or on its way back
abbrev pub credit_sum : Version → ChannelKey → (x y : List Item) → ℕ
credit_sum v c x y = unspent v (other_key c) y + content_in_flight v c x y + length (unread v c x) + acknowledgements_in_flight v c x y

-- no more is emitted than granted, and the credit together is the window of x
pub record CreditAddsUp (v : Version) (c : ChannelKey) (x y : List Item) : Type 0 where
  pub within : emitted v (other_key c) y ≤ granted v (other_key c) y
  pub sum : credit_sum v c x y ≡ window c x

-- the way from y to x on x's channel c: the credit adds up where the channel is live at y and waiting or live at a running x;
-- what comes and what is unread fit into the window until x terminates the channel, whatever y ended; and until y does, no
-- more is acknowledged than was emitted, whatever x ended
pub record HasCredit (v : Version) (c : ChannelKey) (x y : List Item) : Type 0 where
  pub adds_up : is_one v ≡ false → is_running x ≡ true → termination_emitted v c x ≡ false → is_live v (other_key c) y ≡ true → CreditAddsUp v c x y
  pub room : is_one v ≡ false → termination_emitted v c x ≡ false → content_in_flight v c x y + length (unread v c x) ≤ window c x
  pub paid : termination_emitted v (other_key c) y ≡ false → acknowledged v (other_key c) y + acknowledgements_in_flight v c x y ≤ emitted v (other_key c) y

-- x refuses no next frame of y
abbrev pub TakesNext : Version → (x y : List Item) → Type 0
TakesNext v x y = (f : ChannelFrame) (rest : List ChannelFrame) → ahead v x y ≡ f ∷ rest → frame_refusal v (flip f).key f.body x ≡ None

-- all that y wrote on x's channel c came and was handed over
pub record IsDelivered (v : Version) (c : ChannelKey) (x y : List Item) : Type 0 where
  pub emitted : emitted v (other_key c) y ≡ length (written (other_key c) y)
  pub taken : taken v c x ≡ written (other_key c) y
  pub handed : handed v c x ≡ length (written (other_key c) y)
