use Rattle.std.proofs.Common.{◌≡◌, ◌++◌, sym, ap, subst}
use Rattle.std.specs.Prelude.{IfOk}
use Rattle.std.proofs.lemmas.List.{append-nil}
use Rattle.mux_items.specs.Bodies.{body_of, frame_texts}
use Rattle.mux_state.specs.Book.{event_found}
use Rattle.mux_end.specs.Known.{frames_after, heeds}
use Rattle.mux_end.proofs.Places.{list_takes, absent, absent_takes, list_has, list_output, list_stays}
use Rattle.mux_end.proofs.channels.Channels.take.Goals as goal

pub returns-in-Some-clause-takes : goal.returns-in-Some-clause-takes
returns-in-Some-clause-takes c =
    let body = body_of c.args.frame.now.code c.args.frame.now.payload in
    list_takes c.args.key c.self.inside.list.items c.args.self.now c.in-Some.place c.index_mut.result.now c.take.new.self body (heeds body) c.take.result
    (record { view_is = c.self.view_is; place = sym c.in-Some.ensures; entry = c.index_mut.ensures.value }) c.take.ensures.takes

pub returns-in-Some-clause-event : goal.returns-in-Some-clause-event
returns-in-Some-clause-event c =
    let body = body_of c.args.frame.now.code c.args.frame.now.payload in
    subst (λ event. IfOk c.take.result (λ e. e ≡ event))
    (list_has c.args.key c.self.inside.list.items c.args.self.now c.in-Some.place c.index_mut.result.now (λ key found. event_found key body found)
    (record { view_is = c.self.view_is; place = sym c.in-Some.ensures; entry = c.index_mut.ensures.value })) c.take.ensures.event

pub returns-in-Some-clause-output : goal.returns-in-Some-clause-output
returns-in-Some-clause-output c =
    let body = body_of c.args.frame.now.code c.args.frame.now.payload in
    list_output c.args.version c.args.key c.self.inside.list.items c.args.self.now c.in-Some.place c.index_mut.result.now (λ key found. frames_after key body found) c.args.out.now.items c.take.new.out.items c.take.result
    (record { view_is = c.self.view_is; place = sym c.in-Some.ensures; entry = c.index_mut.ensures.value }) c.take.ensures.output

pub returns-in-Some-clause-stays : goal.returns-in-Some-clause-stays
returns-in-Some-clause-stays c =
    list_stays c.args.version c.args.key c.self.inside.list.items c.args.self.now c.in-Some.place c.index_mut.result.now c.take.new.self
    (record { view_is = c.self.view_is; place = sym c.in-Some.ensures; entry = c.index_mut.ensures.value }) c.requires.of c.take.ensures.stays

pub returns-in-None-clause-takes : goal.returns-in-None-clause-takes
returns-in-None-clause-takes c =
    let body = body_of c.args.frame.now.code c.args.frame.now.payload in
    absent_takes c.args.key c.args.self.now body (heeds body) _ (sym c.in-None.ensures)

pub returns-in-None-clause-event : goal.returns-in-None-clause-event
returns-in-None-clause-event c = ap (event_found c.args.key (body_of c.args.frame.now.code c.args.frame.now.payload)) (sym (absent c.args.key c.args.self.now (sym c.in-None.ensures)))

pub returns-in-None-clause-output : goal.returns-in-None-clause-output
returns-in-None-clause-output c =
    let body = body_of c.args.frame.now.code c.args.frame.now.payload in
    subst (λ found. c.args.out.now.items ≡ c.args.out.now.items ++ frame_texts c.args.version (frames_after c.args.key body found)) (sym (absent c.args.key c.args.self.now (sym c.in-None.ensures)))
    (sym (append-nil c.args.out.now.items))
