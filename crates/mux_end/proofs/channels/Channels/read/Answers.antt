use Rattle.std.proofs.Common.{◌≡◌, ◌++◌, take, sym, subst}
use Rattle.std.specs.Prelude.{OnOk, IfOk}
use Rattle.mux_items.specs.declared.channel.ChannelKey.{ChannelKey}
use Rattle.mux_items.specs.Items.{DidRead}
use Rattle.mux_state.specs.Book.{due_found}
use Rattle.mux_state.specs.Next.{next_state}
use Rattle.mux_state.specs.Tests.{read_test}
use Rattle.mux_end.specs.Known.{count_found, unread_found}
use Rattle.mux_end.proofs.Places.{list_leaves, absent_leaves, list_has, list_output, list_stays}
use Rattle.mux_end.proofs.channels.Channels.read.Goals as goal

pub returns-in-Some-clause-leaves : goal.returns-in-Some-clause-leaves
returns-in-Some-clause-leaves c =
    list_leaves c.args.key c.self.inside.list.items c.args.self.now c.in-Some.place c.index_mut.result.now c.read.new.self read_test (next_state (DidRead c.args.key c.args.max)) c.read.result
    (record { view_is = c.self.view_is; place = sym c.in-Some.ensures; entry = c.index_mut.ensures.value }) c.read.ensures.leaves

pub returns-in-Some-clause-count : goal.returns-in-Some-clause-count
returns-in-Some-clause-count c =
    subst (λ count. IfOk c.read.result (λ n. n ≡ count))
    (list_has c.args.key c.self.inside.list.items c.args.self.now c.in-Some.place c.index_mut.result.now (λ (key : ChannelKey) found. count_found c.args.max found)
    (record { view_is = c.self.view_is; place = sym c.in-Some.ensures; entry = c.index_mut.ensures.value })) c.read.ensures.count

pub returns-in-Some-clause-bytes : goal.returns-in-Some-clause-bytes
returns-in-Some-clause-bytes c =
    subst (λ bytes. OnOk c.read.result (c.read.new.into.items ≡ c.args.into.now.items ++ take c.args.max bytes))
    (list_has c.args.key c.self.inside.list.items c.args.self.now c.in-Some.place c.index_mut.result.now (λ (key : ChannelKey) found. unread_found found)
    (record { view_is = c.self.view_is; place = sym c.in-Some.ensures; entry = c.index_mut.ensures.value })) c.read.ensures.bytes

pub returns-in-Some-clause-output : goal.returns-in-Some-clause-output
returns-in-Some-clause-output c =
    list_output c.args.version c.args.key c.self.inside.list.items c.args.self.now c.in-Some.place c.index_mut.result.now (λ key found. due_found key c.args.running (DidRead key c.args.max) found) c.args.out.now.items c.read.new.out.items c.read.result
    (record { view_is = c.self.view_is; place = sym c.in-Some.ensures; entry = c.index_mut.ensures.value }) c.read.ensures.output

pub returns-in-Some-clause-stays : goal.returns-in-Some-clause-stays
returns-in-Some-clause-stays c =
    list_stays c.args.version c.args.key c.self.inside.list.items c.args.self.now c.in-Some.place c.index_mut.result.now c.read.new.self
    (record { view_is = c.self.view_is; place = sym c.in-Some.ensures; entry = c.index_mut.ensures.value }) c.requires c.read.ensures.stays

pub returns-in-None-clause-leaves : goal.returns-in-None-clause-leaves
returns-in-None-clause-leaves c = absent_leaves _ c.args.key c.args.self.now _ read_test (sym c.in-None.ensures)
