use Rattle.std.proofs.Common.{◌∙◌, sym}
use Rattle.duo_world.proofs.Arriving.{begins, stopped_settles, goes_on_with, short_settles, ended_settles}
use Rattle.duo_world.proofs.ends.settle.Goals as goal

pub returns-then-not-is_running : goal.returns-then-not-is_running
returns-then-not-is_running c = λ w d older items y m. stopped_settles w d older _ _ items y m (sym c.is_running.ensures ∙ c.if-not-is_running.true)

pub steps-init : goal.steps-init
steps-init c = λ w d older items y m. begins w d older _ _ items y m (sym c.is_running.ensures ∙ c.if-not-is_running.false)

pub steps-preserved : goal.steps-preserved
steps-preserved c = λ w d older items y m.
    goes_on_with w d older c.steps.own c.step.new.self c.steps.events c.push.new.self items y c.in-Event.event (c.steps.invariant w d older items y m) c.in-Event.ensures.answers c.in_ok-push-in-Event.ensures.ok

pub returns-in-Short : goal.returns-in-Short
returns-in-Short c = λ w d older items y m.
    short_settles w d older c.steps.own c.step.new.self c.steps.events items y (c.steps.invariant w d older items y m) c.in-Short.ensures.answers

pub returns-in-Ended : goal.returns-in-Ended
returns-in-Ended c = λ w d older items y m.
    ended_settles w d older c.steps.own c.step.new.self c.steps.events c.push-in-Ended.new.self items y c.in-Ended.cause (c.steps.invariant w d older items y m) c.in-Ended.ensures.answers c.in_ok-push-in-Ended.ensures.ok
