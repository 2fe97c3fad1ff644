use Rattle.std.proofs.Common.{◌<◌, arith, ap, length, ◌∙◌}
use Rattle.endpoint.specs.Value.{EndpointValue}
use Rattle.endpoint.proofs.InTurn.{turn_answers, turn_passes}
use Rattle.endpoint.proofs.endpoint.Endpoint.step_connections.Goals as goal

pub returns-in-Some-clause-answers : goal.returns-in-Some-clause-answers
returns-in-Some-clause-answers c = λ items at rest s.
    let loop = c.loop-place.self in
    let within : c.loop-place.place < length loop.connections = omega (arith, c.loop-place-test.true, c.len.ensures, ap (λ (e : EndpointValue). length e.connections) c.self.view_is) in
    turn_answers loop c.args.self.now c.step_connection.new.self items at rest c.loop-place.place (c.loop-place.invariant.same items at rest s) s (c.loop-place.invariant.left items at rest s) within c.in-Some.step
    (λ a here stands. c.in-Some.ensures.answers a items at rest here stands)

pub loop-place-preserved : goal.loop-place-preserved
loop-place-preserved c =
    let loop = c.loop-place.self in
    let within : c.loop-place.place < length loop.connections = omega (arith, c.loop-place-test.true, c.len.ensures, ap (λ (e : EndpointValue). length e.connections) c.self.view_is) in
    record {
      same = λ items at rest s. (turn_passes loop c.args.self.now c.step_connection.new.self items at rest c.loop-place.place (c.loop-place.invariant.same items at rest s) s (c.loop-place.invariant.left items at rest s) within
          (λ a here stands. c.in_default.ensures.answers a items at rest here stands)).0;
      left = λ items at rest s. (turn_passes loop c.args.self.now c.step_connection.new.self items at rest c.loop-place.place (c.loop-place.invariant.same items at rest s) s (c.loop-place.invariant.left items at rest s) within
          (λ a here stands. c.in_default.ensures.answers a items at rest here stands)).1;
      terms = record { version = c.step_connection.ensures.terms.version ∙ c.loop-place.invariant.terms.version; nonce = c.step_connection.ensures.terms.nonce ∙ c.loop-place.invariant.terms.nonce };
    }
