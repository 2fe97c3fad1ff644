use Rattle.std.proofs.Common.{sym, ◌∙◌, refl}
use Rattle.std.specs.List.{flat_map}
use Rattle.marshalled_handles.specs.Numbers.{adopted_numbers}
use Rattle.endpoint_items.specs.Connections.{items_of}
use Rattle.endpoint_items.specs.Layers.{rpc_of}
use Rattle.transcript.specs.Report.{peer_handle_line}
use Rattle.transcript.proofs.Channels.{told_more, told_all}
use Rattle.transcript.proofs.summary.push_peer_handles.Goals as goal

pub loop-i-init : goal.loop-i-init
loop-i-init c = λ items at rest s. refl

pub returns-in_default : goal.returns-in_default
returns-in_default c = λ items at rest s.
    told_all (flat_map (peer_handle_line c.args.end.now.mux.version c.args.side items c.args.key)) (adopted_numbers (items_of (rpc_of c.args.end.now.mux.version c.args.key items))) c.loop-i.i _ _
    (sym (c.peer_handle.ensures items at rest s) ∙ c.in_default.is) refl (c.loop-i.invariant items at rest s)

pub loop-i-preserved : goal.loop-i-preserved
loop-i-preserved c = λ items at rest s.
    told_more (flat_map (peer_handle_line c.args.end.now.mux.version c.args.side items c.args.key)) (adopted_numbers (items_of (rpc_of c.args.end.now.mux.version c.args.key items))) c.loop-i.i c.in-Some.number
    (peer_handle_line c.args.end.now.mux.version c.args.side items c.args.key c.in-Some.number) _ _ _
    (sym (c.peer_handle.ensures items at rest s) ∙ c.in-Some.is) refl (c.in_ok-push_handle.ensures items at rest s) (c.loop-i.invariant items at rest s)
