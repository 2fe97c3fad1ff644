-- Where the credit of a channel is.
use Rattle.std.specs.Prelude.{ℕ, ◌+◌, ◌≤◌, List, length, map, true, false}
use Rattle.std.proofs.Common.{◌≡◌, sym, ◌∙◌, ap, arith, length-append}
use Rattle.wire_base.specs.declared.frame.Version.{Version}
use Rattle.mux_items.specs.declared.channel.ChannelKey.{ChannelKey}
use Rattle.mux_items.specs.Bodies.{FrameBody, other_key, flip, is_one}
use Rattle.mux_items.specs.Items.{Item, is_running}
use Rattle.mux_items.specs.Lists.{window, emitted, acknowledged, unread, termination_emitted}
use Rattle.mux_items.specs.Due.{sent, got, contents}
use Rattle.mux_items.proofs.Emission.{contents-append}
use Rattle.mux_items.proofs.Taking.{taken_exact, handed_bound}
use Rattle.mux_items.proofs.Flips.{contents-flip}
use Rattle.mux_items.proofs.Flips.{other_other}
use Rattle.mux_items.specs.Sums.{window_in, credit_in, total, windows}
use Rattle.mux_run.specs.Between.{ahead, Between}
use Rattle.mux_run.proofs.Between.{turned_between}
use Rattle.mux_credit.specs.Credit.{credit_sum, content_in_flight, acknowledgements_in_flight}
use Rattle.mux_items.proofs.Totals.{total-append, total-flip, windows-sent, credits-sent-le, emitted_is_sent, taken_came}
use Rattle.mux_items.proofs.Exact.{credits-sent, acknowledged-got, granted-got, emitted_granted, unread_is}

-- amounts of the frames that y sends on x's channel c: what x got, and what is on its way
pub amounts_into : (amount : FrameBody → ℕ) (v : Version) (c : ChannelKey) (x y : List Item) → Between v x y → total amount (other_key c) (sent v y) ≡ total amount c (got x) + total amount (other_key c) (ahead v x y)
amounts_into amount v c x y b =
    omega (arith, ap (total amount (other_key c)) b.into, total-append amount (other_key c) (map flip (got x)) (ahead v x y), total-flip amount c (got x))

pub amounts_back : (amount : FrameBody → ℕ) (v : Version) (c : ChannelKey) (x y : List Item) → Between v x y → total amount c (sent v x) ≡ total amount (other_key c) (got y) + total amount c (ahead v y x)
amounts_back amount v c x y b =
    ap (λ k. total amount k (sent v x)) (sym (other_other c)) ∙ (amounts_into amount v (other_key c) y x (turned_between v x y b)
    ∙ ap (λ k. total amount (other_key c) (got y) + total amount k (ahead v y x)) (other_other c))

-- the content that y emitted came to x or is on its way
pub content_into : (v : Version) (c : ChannelKey) (x y : List Item) → Between v x y → emitted v (other_key c) y ≡ length (contents c (got x)) + content_in_flight v c x y
content_into v c x y b =
    omega (
      arith,
      emitted_is_sent v (other_key c) y,
      ap (λ fs. length (contents (other_key c) fs)) b.into,
      ap length (contents-append (other_key c) (map flip (got x)) (ahead v x y)),
      length-append (contents (other_key c) (map flip (got x))) (contents (other_key c) (ahead v x y)),
      ap length (contents-flip c (got x)),
    )

-- the sum over an open channel: with the window in flight, where y hasn't got it
pub open_sum : (v : Version) (c : ChannelKey) (x y : List Item) → is_one v ≡ false → Between v x y → is_running x ≡ true → termination_emitted v c x ≡ false → termination_emitted v (other_key c) y ≡ false
    → credit_sum v c x y + windows c (ahead v y x) ≡ window c x
open_sum v c x y two b runs heard heard_peer =
    omega (
      arith,
      windows-sent v c x two,
      credits-sent v c x two b.allowed runs heard,
      amounts_back window_in v c x y b,
      amounts_back credit_in v c x y b,
      granted-got v (other_key c) y b.allowed_peer heard_peer,
      emitted_granted v (other_key c) y two,
      content_into v c x y b,
      ap length (taken_exact v c x heard b.allowed),
      unread_is v c x heard,
      handed_bound v c x,
    )

-- what comes and what is unread keep within the window, whatever y ended
pub room : (v : Version) (c : ChannelKey) (x y : List Item) → is_one v ≡ false → Between v x y → termination_emitted v c x ≡ false → content_in_flight v c x y + length (unread v c x) ≤ window c x
room v c x y two b heard =
    omega (
      arith,
      windows-sent v c x two,
      credits-sent-le v c x,
      amounts_back window_in v c x y b,
      amounts_back credit_in v c x y b,
      emitted_granted v (other_key c) y two,
      content_into v c x y b,
      ap length (taken_exact v c x heard b.allowed),
      unread_is v c x heard,
      handed_bound v c x,
    )

-- y heeds no acknowledgement of more than it emitted, whatever x ended
pub owed : (v : Version) (c : ChannelKey) (x y : List Item) → Between v x y → termination_emitted v (other_key c) y ≡ false → acknowledged v (other_key c) y + acknowledgements_in_flight v c x y ≤ emitted v (other_key c) y
owed v c x y b heard_peer =
    omega (
      arith,
      acknowledged-got v (other_key c) y b.allowed_peer heard_peer,
      credits-sent-le v c x,
      amounts_back credit_in v c x y b,
      content_into v c x y b,
      taken_came v c x b.allowed,
      handed_bound v c x,
    )
