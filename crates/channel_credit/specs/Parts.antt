-- A channel's state by the parts of a channel.
use Rattle.mux_state.specs.State.{ChannelState}
use Rattle.channel_credit.specs.Sound.{IsSound}
use Rattle.channel_credit.specs.declared.channel.Channel.TheInside.{Inside}

abbrev pub state_in : Inside → ChannelState
state_in c = record {
  version = c.version;
  own = c.own;
  window = c.incoming.window;
  accepted = c.accepted;
  written = c.outgoing.written;
  pending = c.outgoing.pending;
  emitted = c.outgoing.emitted;
  completing = c.outgoing.completing;
  completion_sent = c.outgoing.completion_sent;
  granted = c.outgoing.granted;
  acknowledged = c.outgoing.acknowledged;
  taken = c.incoming.taken;
  unread = c.incoming.unread;
  handed = c.incoming.handed;
  completed = c.incoming.completed;
  termination_sent = c.termination_sent;
  peer_terminated = c.peer_terminated;
}

abbrev pub IsSoundIn : Inside → Type 0
IsSoundIn c = IsSound (state_in c)
