use Rattle.std.specs.Prelude.{Some, None}
use Rattle.std.proofs.Common.{set}
use Rattle.endpoint.specs.Value.{value_in}
use Rattle.endpoint.proofs.Applying.{event_answers, refusal_answers, seen, slice_of, waits_answers}
use Rattle.endpoint.proofs.Sending.{at_set, one_changed}
use Rattle.endpoint.proofs.endpoint.Endpoint.apply_message.Goals as goal

pub invariant_of-self : goal.invariant_of-self
invariant_of-self c =
    one_changed c.self.inside.mux c.self.inside.connections.items c.self.inside.stopped c.args.self.now c.args.place c.index_mut.result.now c.step.new.self c.self.view_is c.requires c.index_mut.ensures.value c.self.invariant

pub invariant_of-self-in-Short : goal.invariant_of-self-in-Short
invariant_of-self-in-Short c =
    one_changed c.self.inside.mux c.self.inside.connections.items c.self.inside.stopped c.args.self.now c.args.place c.index_mut.result.now c.step.new.self c.self.view_is c.requires c.index_mut.ensures.value c.self.invariant

pub invariant_of-self-in-Ended : goal.invariant_of-self-in-Ended
invariant_of-self-in-Ended c =
    one_changed c.self.inside.mux c.self.inside.connections.items c.self.inside.stopped c.args.self.now c.args.place c.index_mut.result.now c.step.new.self c.self.view_is c.requires c.index_mut.ensures.value c.self.invariant

pub invariant_of-self-in-Stopped : goal.invariant_of-self-in-Stopped
invariant_of-self-in-Stopped c =
    one_changed c.self.inside.mux c.self.inside.connections.items c.self.inside.stopped c.args.self.now c.args.place c.index_mut.result.now c.step.new.self c.self.view_is c.requires c.index_mut.ensures.value c.self.invariant

pub returns-in-Event-clause-answers : goal.returns-in-Event-clause-answers
returns-in-Event-clause-answers c = λ attached items at rest here s runs room.
    let inside = c.self.inside in
    let xs = inside.connections.items in
    let x = c.index_mut.result.now in
    let mid = c.step.new.self in
    let y = record x { end = mid } in
    let new = c.answer.new.self in
    seen (value_in inside.mux xs inside.stopped) c.args.self.now new c.args.place x attached items at rest (Some c.answer.result) c.self.view_is c.index_mut.ensures.value c.requires here s runs room
    (λ within s runs room.
    event_answers inside.mux xs inside.stopped c.args.place x mid new items at rest within c.self.invariant c.index_mut.ensures.value s runs room c.in-Event.event c.answer.result c.in-Event.ensures.answers
    (c.answer.ensures.answers y (at_set xs c.args.place x y (slice_of xs c.args.place x within c.index_mut.ensures.value))))

pub returns-in-Short-clause-answers : goal.returns-in-Short-clause-answers
returns-in-Short-clause-answers c = λ attached items at rest here s runs room.
    let inside = c.self.inside in
    let xs = inside.connections.items in
    let x = c.index_mut.result.now in
    let mid = c.step.new.self in
    let between = value_in inside.mux (set xs c.args.place (record x { end = mid })) inside.stopped in
    seen (value_in inside.mux xs inside.stopped) c.args.self.now between c.args.place x attached items at rest None c.self.view_is c.index_mut.ensures.value c.requires here s runs room
    (λ within s runs room. waits_answers inside.mux xs inside.stopped c.args.place x mid between items at rest within c.self.invariant c.index_mut.ensures.value s runs room c.in-Short.ensures.answers)

pub returns-in-Ended-clause-answers : goal.returns-in-Ended-clause-answers
returns-in-Ended-clause-answers c = λ attached items at rest here s runs room.
    let inside = c.self.inside in
    let xs = inside.connections.items in
    let x = c.index_mut.result.now in
    let mid = c.step.new.self in
    let y = record x { end = mid } in
    let new = c.close.new.self in
    seen (value_in inside.mux xs inside.stopped) c.args.self.now new c.args.place x attached items at rest (Some c.close.result) c.self.view_is c.index_mut.ensures.value c.requires here s runs room
    (λ within s runs room.
    refusal_answers inside.mux xs inside.stopped c.args.place x mid new items at rest within c.self.invariant c.index_mut.ensures.value s runs room c.in-Ended.cause c.close.result c.in-Ended.ensures.answers
    (λ m n bs stands running. c.close.ensures.closes y m n bs (at_set xs c.args.place x y (slice_of xs c.args.place x within c.index_mut.ensures.value)) stands running))
