use Rattle.std.specs.Prelude.{◌-◌}
use Rattle.std.proofs.Common.{◌≡◌, ◌+◌, ◌++◌, ap, ◌∙◌, sym, arith}
use Rattle.std.proofs.lemmas.List.{append-nil}
use Rattle.rpc_items.specs.Made.{last_handle}
use Rattle.endpoint_items.specs.Connections.{items_of}
use Rattle.endpoint_items.specs.Layers.{rpc_of}
use Rattle.transcript.specs.Report.{own_handle_line, lines_to}
use Rattle.transcript.proofs.Channels.{one_more}
use Rattle.transcript.proofs.summary.push_own_handles.Goals as goal

pub loop-number-init : goal.loop-number-init
loop-number-init c = λ items at rest s. (omega arith, sym (append-nil c.args.out.now.items))

pub loop-number-preserved : goal.loop-number-preserved
loop-number-preserved c = λ items at rest s.
    let before = c.loop-number.invariant items at rest s in (
      omega (arith, c.last_handle-number-end.ensures items at rest s),
      one_more (own_handle_line c.args.end.now.mux.version c.args.side items c.args.key) c.loop-number.number _ _ _ (omega arith) (c.in_ok-push_handle.ensures items at rest s) before.1,
    )

pub returns : goal.returns
returns c = λ items at rest s.
    let before = c.loop-number.invariant items at rest s in
    let last : c.loop-number.number - 1 ≡ last_handle (items_of (rpc_of c.args.end.now.mux.version c.args.key items)) = omega (arith, c.last_handle-number-end.ensures items at rest s, before.0) in
    before.1 ∙ ap (λ k. c.args.out.now.items ++ lines_to (own_handle_line c.args.end.now.mux.version c.args.side items c.args.key) k) last

pub returns-in_ok-push_handle : goal.returns-in_ok-push_handle
returns-in_ok-push_handle c = λ items at rest s.
    let before = c.loop-number.invariant items at rest s in
    let last : c.loop-number.number + 1 - 1 ≡ last_handle (items_of (rpc_of c.args.end.now.mux.version c.args.key items)) = omega (arith, c.last_handle-number-end.ensures items at rest s) in
    one_more (own_handle_line c.args.end.now.mux.version c.args.side items c.args.key) c.loop-number.number _ _ _ (omega arith) (c.in_ok-push_handle.ensures items at rest s) before.1
    ∙ ap (λ k. c.args.out.now.items ++ lines_to (own_handle_line c.args.end.now.mux.version c.args.side items c.args.key) k) last
