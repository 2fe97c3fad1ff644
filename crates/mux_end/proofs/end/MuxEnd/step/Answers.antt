use Rattle.std.proofs.Common.{◌≡◌, true, false, sym, ◌∙◌, ap}
use Rattle.std.proofs.lemmas.Bool.{or_parts}
use Rattle.wire_base.specs.declared.state.EndState.TheVariants as state
use Rattle.mux_items.specs.Bodies.{is_three}
use Rattle.mux_items.specs.Refusals.{is_greeted}
use Rattle.mux_state.specs.Book.{is_ready_book}
use Rattle.mux_end.specs.Stands.{EndValue}
use Rattle.mux_end.proofs.Stepping.{step_answers, greeting_answers, event_shortens, greeting_shortens}
use Rattle.mux_end.proofs.end.MuxEnd.step.Goals as goal

pub returns-in-Running-clause-answers : goal.returns-in-Running-clause-answers
returns-in-Running-clause-answers c = λ items at rest s.
    let self = c.args.self.now in
    let running : self.state ≡ state.Running = sym c.state.ensures ∙ c.in-Running.is in
    let ready : is_ready_book self.book ≡ true = ap (λ (e : EndValue). is_ready_book e.book) (sym c.self.view_is) ∙ (sym c.is_ready.ensures ∙ c.if-is_ready.true) in
    step_answers self items at rest s running c.apply_front.new.self c.apply_front.result ready c.apply_front.ensures.steps

pub returns-in-Running-clause-shorter : goal.returns-in-Running-clause-shorter
returns-in-Running-clause-shorter c = λ event is. event_shortens c.args.self.now c.apply_front.new.self c.apply_front.result event is c.apply_front.ensures.steps

pub returns-in-Running-2-clause-answers : goal.returns-in-Running-2-clause-answers
returns-in-Running-2-clause-answers c = λ items at rest s.
    let self = c.args.self.now in
    let running : self.state ≡ state.Running = sym c.state.ensures ∙ c.in-Running.is in
    let waits : is_ready_book self.book ≡ false = ap (λ (e : EndValue). is_ready_book e.book) (sym c.self.view_is) ∙ (sym c.is_ready.ensures ∙ c.if-is_ready.false) in
    greeting_answers self items at rest s running c.greet.new.self c.greet.result waits c.greet.ensures.steps

pub returns-in-Running-2-clause-shorter : goal.returns-in-Running-2-clause-shorter
returns-in-Running-2-clause-shorter c = λ event is.
    let unready : is_ready_book c.self.inside.book ≡ false = sym c.is_ready.ensures ∙ c.if-is_ready.false in
    let other = (or_parts (is_three c.self.inside.book.version) (is_greeted c.self.inside.book.party) unready).0 in
    greeting_shortens c.args.self.now c.greet.new.self c.greet.result event (ap (λ (e : EndValue). is_three e.version) (sym c.self.view_is) ∙ other) is c.greet.ensures.steps
