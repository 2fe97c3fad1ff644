use Rattle.std.proofs.Common.{sym}
use Rattle.mux_end.specs.ChannelCalls.{called_frames, called_state, test_of}
use Rattle.mux_end.proofs.Places.{list_leaves, absent_leaves, list_output, list_stays}
use Rattle.mux_end.proofs.channels.Channels.call.Goals as goal

pub returns-in-Some-clause-leaves : goal.returns-in-Some-clause-leaves
returns-in-Some-clause-leaves c =
    list_leaves c.args.key c.self.inside.list.items c.args.self.now c.in-Some.place c.index_mut.result.now c.call.new.self (test_of c.args.call) (called_state c.args.call) c.call.result
    (record { view_is = c.self.view_is; place = sym c.in-Some.ensures; entry = c.index_mut.ensures.value }) c.call.ensures.leaves

pub returns-in-Some-clause-output : goal.returns-in-Some-clause-output
returns-in-Some-clause-output c =
    list_output c.args.version c.args.key c.self.inside.list.items c.args.self.now c.in-Some.place c.index_mut.result.now (λ key found. called_frames key c.args.call found) c.args.out.now.items c.call.new.out.items c.call.result
    (record { view_is = c.self.view_is; place = sym c.in-Some.ensures; entry = c.index_mut.ensures.value }) c.call.ensures.output

pub returns-in-Some-clause-stays : goal.returns-in-Some-clause-stays
returns-in-Some-clause-stays c =
    list_stays c.args.version c.args.key c.self.inside.list.items c.args.self.now c.in-Some.place c.index_mut.result.now c.call.new.self
    (record { view_is = c.self.view_is; place = sym c.in-Some.ensures; entry = c.index_mut.ensures.value }) c.requires c.call.ensures.stays

pub returns-in-None-clause-leaves : goal.returns-in-None-clause-leaves
returns-in-None-clause-leaves c = absent_leaves _ c.args.key c.args.self.now _ (test_of c.args.call) (sym c.in-None.ensures)
