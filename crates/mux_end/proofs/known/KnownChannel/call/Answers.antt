use Rattle.std.proofs.Common.{sym, ◌∙◌, ap}
use Rattle.mux_end.specs.Known.{entry_in}
use Rattle.mux_end.specs.ChannelCalls.{called_state, made_state, test_of}
use Rattle.mux_end.proofs.Keeping.{call_failed, call_done, call_output, call_stays}
use Rattle.mux_end.proofs.known.KnownChannel.call.Goals as goal

pub returns-in-Err-clause-leaves : goal.returns-in-Err-clause-leaves
returns-in-Err-clause-leaves c =
    call_failed _ _ c.args.self.now c.self.inside.key c.in-Kept.channel c.make.new.channel (test_of c.args.call) (made_state c.args.call) (called_state c.args.call) c.in-Err.fault
    (ap (entry_in c.self.inside.key) (sym c.in-Kept.is) ∙ c.self.view_is) c.in-Err.ensures.leaves

pub returns-in-Err-clause-stays : goal.returns-in-Err-clause-stays
returns-in-Err-clause-stays c =
    call_stays c.args.version c.args.self.now c.self.inside.key c.in-Kept.channel c.make.new.channel (ap (entry_in c.self.inside.key) (sym c.in-Kept.is) ∙ c.self.view_is) c.make.ensures.one_version c.requires

pub returns-in-Ok-clause-leaves : goal.returns-in-Ok-clause-leaves
returns-in-Ok-clause-leaves c =
    call_done c.args.self.now c.self.inside.key c.in-Kept.channel c.make.new.channel c.finish.new.self (test_of c.args.call) (made_state c.args.call) _ c.finish.result
    (ap (entry_in c.self.inside.key) (sym c.in-Kept.is) ∙ c.self.view_is) c.in-Ok.ensures.leaves c.finish.ensures.leaves

pub returns-in-Ok-clause-output : goal.returns-in-Ok-clause-output
returns-in-Ok-clause-output c =
    call_output c.args.version c.args.self.now c.self.inside.key c.in-Kept.channel c.make.new.channel c.args.call (test_of c.args.call c.in-Kept.channel) _ c.args.out.now.items c.make.new.out.items c.finish.new.out.items c.finish.result
    (ap (entry_in c.self.inside.key) (sym c.in-Kept.is) ∙ c.self.view_is) c.in-Ok.ensures.leaves c.in-Ok.ensures.output c.finish.ensures.output
