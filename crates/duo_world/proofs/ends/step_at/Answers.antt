use Rattle.std.proofs.Common.{sym, subst, IfOk}
use Rattle.endpoint_run.specs.declared.answers.DuoAnswer.TheVariants as duo
use Rattle.endpoint_run.specs.Run.{mux_side}
use Rattle.duo_world.specs.Holding.{place_of, rest_of}
use Rattle.duo_world.specs.Stepping.{StepsAt}
use Rattle.duo_world.proofs.Answering.{ended_steps}
use Rattle.duo_world.proofs.ends.step_at.Goals as goal

pub returns-in-Call : goal.returns-in-Call
returns-in-Call c = λ w x y r.
    subst (λ s. IfOk c.call_at.result (StepsAt w s c.call_at.new.own c.args.peer.now x y)) (sym c.in-Call.is) (c.call_at.ensures w c.in-Call.field-0 c.args.peer.now x y r)

pub returns-in-Deliver : goal.returns-in-Deliver
returns-in-Deliver c = λ w x y r.
    subst (λ s. IfOk c.deliver.result (StepsAt w s c.deliver.new.own c.deliver.new.peer x y)) (sym c.in-Deliver.is) (c.deliver.ensures w c.in-Deliver.field-0 x y r)

pub returns-in-End : goal.returns-in-End
returns-in-End c = λ w x y r.
    subst (λ s. StepsAt w s c.end_of_input.new.self c.args.peer.now x y duo.Ended) (sym c.in-End.is)
    (ended_steps w c.in-End.field-0 c.args.own.now c.end_of_input.new.self c.args.peer.now x y r
    (c.end_of_input.ensures.answers x.items (place_of w (mux_side w.version x) (mux_side w.version y)) (rest_of w (mux_side w.version x) (mux_side w.version y)) r.stand.at_own.stands))
