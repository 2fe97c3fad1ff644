use Rattle.std.proofs.Common.{subst}
use Rattle.endpoint.specs.Applied.{Applies}
use Rattle.endpoint_run.specs.Run.{mux_side}
use Rattle.duo_world.specs.Holding.{place_of, rest_of}
use Rattle.duo_world.proofs.Calls.{calls}
use Rattle.duo_world.proofs.ends.make_call.Goals as goal

pub returns-in_default : goal.returns-in_default
returns-in_default c = λ w x y h.
    let at = place_of w (mux_side w.version x) y in
    let rest = rest_of w (mux_side w.version x) y in
    calls w c.args.call.now c.args.own.now c.apply.new.self x y c.apply.result c.note_ranges.ensures h
    (subst (λ call. Applies c.args.own.now c.apply.new.self x.items at rest call c.apply.result) c.in_ok-copy.ensures (c.apply.ensures.applies x.items at rest h.stands)) c.in_default.not-OutOfMemory
