-- What always holds of a channel's counts.
use Rattle.std.specs.Prelude.{◌≡◌, ◌≤◌, ◌<◌, ◌+◌, length, true, false}
use Rattle.wire_base.specs.declared.limits.TheConstants.{COUNT_LIMIT}
use Rattle.mux_items.specs.Limits.{greatest_window, most_bytes}
use Rattle.mux_state.specs.State.{ChannelState}

-- counts are in their ranges, no more was emitted, acknowledged or handed over than may be, and before acceptance
-- nothing was emitted and only the offerer has given its window
pub record IsSound (s : ChannelState) : Type 0 where
  pub window_within : s.window ≤ greatest_window
  pub emitted_within : s.emitted + length s.pending ≤ s.written
  pub written_within : s.written ≤ most_bytes
  pub handed_within : s.handed + length s.unread ≤ s.taken
  pub acknowledged_within : s.acknowledged ≤ s.emitted
  pub granted_within : s.granted < COUNT_LIMIT + s.acknowledged
  pub waits_unsent : s.accepted ≡ false → s.emitted ≡ 0
  pub own_waits : s.accepted ≡ false → s.own ≡ true → s.granted ≡ 0
  pub peer_waits : s.accepted ≡ false → s.own ≡ false → s.window ≡ 0
