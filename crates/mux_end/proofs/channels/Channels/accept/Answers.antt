use Rattle.std.proofs.Common.{sym, set, subst}
use Rattle.std.specs.Prelude.{sum_by, Option}
use Rattle.wire_base.specs.declared.refusal.Refusal.{Refusal}
use Rattle.mux_items.specs.Items.{DidAccept}
use Rattle.mux_state.specs.State.{ChannelState}
use Rattle.mux_state.specs.Book.{Entry, change_at, due_found, find, kept_in, kept_window}
use Rattle.mux_state.specs.Next.{next_state}
use Rattle.mux_state.specs.Tests.{accept_test, on_kept}
use Rattle.mux_end.specs.Known.{Leaves}
use Rattle.mux_end.proofs.Places.{list_leaves, absent_leaves, list_output, list_stays, accept_within}
use Rattle.mux_end.proofs.channels.Channels.accept.Goals as goal

pub returns-in-Some-clause-leaves : goal.returns-in-Some-clause-leaves
returns-in-Some-clause-leaves c =
    let es = c.args.self.now in
    let windows = sum_by (λ (entry : Entry). kept_window entry.standing) es in
    subst (λ (test : ChannelState → Option Refusal). Leaves (on_kept (kept_in (find c.args.key es)) test) es (change_at c.args.key (next_state (DidAccept c.args.key c.args.window)) es) (set c.self.inside.list.items c.in-Some.place c.accept.new.self) c.accept.result)
    (accept_within c.windows-windows.result windows c.args.window c.windows-windows.ensures)
    (list_leaves c.args.key c.self.inside.list.items es c.in-Some.place c.index_mut.result.now c.accept.new.self (accept_test c.windows-windows.result c.args.window) (next_state (DidAccept c.args.key c.args.window)) c.accept.result
    (record { view_is = c.self.view_is; place = sym c.in-Some.ensures; entry = c.index_mut.ensures.value }) c.accept.ensures.leaves)

pub returns-in-Some-clause-output : goal.returns-in-Some-clause-output
returns-in-Some-clause-output c = λ running.
    list_output c.args.version c.args.key c.self.inside.list.items c.args.self.now c.in-Some.place c.index_mut.result.now (λ key found. due_found key running (DidAccept key c.args.window) found) c.args.out.now.items c.accept.new.out.items c.accept.result
    (record { view_is = c.self.view_is; place = sym c.in-Some.ensures; entry = c.index_mut.ensures.value }) (c.accept.ensures.output running)

pub returns-in-Some-clause-stays : goal.returns-in-Some-clause-stays
returns-in-Some-clause-stays c =
    list_stays c.args.version c.args.key c.self.inside.list.items c.args.self.now c.in-Some.place c.index_mut.result.now c.accept.new.self
    (record { view_is = c.self.view_is; place = sym c.in-Some.ensures; entry = c.index_mut.ensures.value }) c.requires c.accept.ensures.stays

pub returns-in-None-clause-leaves : goal.returns-in-None-clause-leaves
returns-in-None-clause-leaves c = absent_leaves _ c.args.key c.args.self.now _ (accept_test (sum_by (λ (entry : Entry). kept_window entry.standing) c.args.self.now) c.args.window) (sym c.in-None.ensures)
