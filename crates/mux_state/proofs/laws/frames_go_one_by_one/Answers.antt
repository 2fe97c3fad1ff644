use Rattle.std.specs.Prelude.{true}
use Rattle.mux_items.specs.declared.channel.ChannelKey.{ChannelKey}
use Rattle.mux_state.proofs.Emits.{sends_one}
use Rattle.mux_state.proofs.Ending.{comes_to_end}
use Rattle.mux_state.proofs.laws.frames_go_one_by_one.Goals as goal

any_key : ChannelKey
any_key = record { id = 0; own = true }

pub returns : goal.returns
returns c = record {
  settles = λ s. (sends_one any_key s).settles;
  frames = λ c s. (sends_one c s).frames;
  rests = λ s. (comes_to_end any_key s).settled;
  silent = λ c s. (comes_to_end c s).silent;
  falls = λ s. (comes_to_end any_key s).falls;
}
