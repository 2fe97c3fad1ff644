-- A channel before its offer.
use Rattle.std.specs.Prelude.{List, Bool, true, false}
use Rattle.std.proofs.Common.{◌≡◌, sym, ◌∙◌, ap}
use Rattle.std.proofs.lemmas.Bool.{true≢false}
use Rattle.wire_base.specs.declared.frame.Version.{Version}
use Rattle.mux_items.specs.declared.channel.ChannelKey.{ChannelKey}
use Rattle.mux_items.specs.Items.{Item}
use Rattle.mux_items.specs.Lists.{is_offered}
use Rattle.mux_items.specs.Applying.{Allowed}
use Rattle.mux_state.specs.State.{channel_at, blank}
use Rattle.mux_state.specs.Next.{ended_state}
use Rattle.mux_state.proofs.Fields.{channel_unnamed, channel_hello}
use Rattle.mux_items.proofs.Offered.{never}

pub clash : {A : Type 0} (b : Bool) → b ≡ true → b ≡ false → A
clash b e f = absurd (true≢false (sym e ∙ f))

-- nothing is said of a channel before it is offered
pub blank_before : (v : Version) (c : ChannelKey) (items : List Item) → Allowed v items → is_offered c items ≡ false → channel_at v c items ≡ blank v c.own
blank_before v c items ok e = never c (channel_at v c) (channel_unnamed v c) (λ party items older. channel_hello v c party items ∙ older) (λ cause items older. ap ended_state older) v items ok e
