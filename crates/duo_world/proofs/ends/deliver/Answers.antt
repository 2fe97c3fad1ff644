use Rattle.std.proofs.Common.{◌+◌, ◌∙◌, sym, ap, arith, min, length, take}
use Rattle.endpoint_run.specs.Run.{mux_side}
use Rattle.duo_world.proofs.Delivering.{delivers_nothing, delivers_on, delivers_kept, delivers_spent}
use Rattle.duo_world.proofs.ends.deliver.Goals as goal

pub returns-then-not-is_running : goal.returns-then-not-is_running
returns-then-not-is_running c = λ w side x y r. delivers_nothing w c.args.n side c.args.own.now c.args.peer.now _ x y r (sym c.is_running.ensures ∙ c.if-not-is_running.true) c.new-events.ensures

pub returns-in_ok-settle-in-Running : goal.returns-in_ok-settle-in-Running
returns-in_ok-settle-in-Running c = λ w side x y r.
    let m = c.min-count.result in
    let on = delivers_on w c.args.n m side c.args.own.now c.feed.new.self c.args.peer.now _ (take m c.pending_output-pending.result.now) c.in_ok-feed.field-0 x y r (sym c.is_running.ensures ∙ c.if-not-is_running.false) c.new-events.ensures
    (c.min-count.ensures ∙ ap (λ bs. min c.args.n (length bs)) c.pending_output-pending.ensures) (ap (take m) c.pending_output-pending.ensures) c.in_ok-feed.ensures.answers c.in-Running.is in
    delivers_kept w c.args.n m side c.args.own.now c.settle.new.own c.args.peer.now c.took.new.self c.settle.new.events x y r on.1 on.2
    (omega (arith, c.min-count.ensures, ap length c.pending_output-pending.ensures)) c.took.ensures
    (c.in_ok-settle-in-Running.ensures w (x.delivered + m) (length x.items) x.items (mux_side w.version y) on.0)

pub returns-in_ok-push-in-Ended : goal.returns-in_ok-push-in-Ended
returns-in_ok-push-in-Ended c = λ w side x y r.
    let m = c.min-count.result in
    delivers_spent w c.args.n m side c.args.own.now c.feed.new.self c.args.peer.now _ c.push.new.self (take m c.pending_output-pending.result.now) c.in_ok-feed.field-0 c.in-Ended.cause x y r (sym c.is_running.ensures ∙ c.if-not-is_running.false) c.new-events.ensures
    (c.min-count.ensures ∙ ap (λ bs. min c.args.n (length bs)) c.pending_output-pending.ensures) (ap (take m) c.pending_output-pending.ensures) c.in_ok-feed.ensures.answers c.in-Ended.is c.in_ok-push-in-Ended.ensures.ok
