use Rattle.std.proofs.Common.{◌∙◌, ap}
use Rattle.mux_state.specs.Next.{settled}
use Rattle.mux_state.proofs.Emits.{sends_one}
use Rattle.mux_end.proofs.OneByOne.{output_goes_on}
use Rattle.mux_end.proofs.emission.emit_due.Goals as goal

pub frames-preserved : goal.frames-preserved
frames-preserved c =
    let ensures = c.in_ok-emit_one.ensures in
    record {
      state = ap settled ensures.state ∙ ((sends_one c.args.key c.frames.channel).settles ∙ c.frames.invariant.state);
      output = output_goes_on c.args.version c.args.key c.frames.channel c.emit_one.new.channel c.frames.out.items c.emit_one.new.out.items _ ensures.state ensures.output c.frames.invariant.output;
      one_version = ensures.one_version ∙ c.frames.invariant.one_version;
    }
