use Rattle.std.proofs.Common.{◌≡◌, ◌++◌, ap, ◌∙◌}
use Rattle.mux_items.specs.Items.{ended}
use Rattle.endpoint_items.specs.Layers.{mux_of}
use Rattle.transcript.specs.Report.{shown_state, state_text}
use Rattle.transcript.proofs.Channels.{shown_state-is}
use Rattle.transcript.proofs.Joined.{joined_six}
use Rattle.transcript.proofs.summary.push_summary.Goals as goal

pub returns : goal.returns
returns c = λ items at rest s.
    let told : shown_state c.state.result ≡ state_text (ended (mux_of c.args.end.now.mux.version items)) =
    ap shown_state (c.state.ensures ∙ (s.state ∙ s.mux.state)) ∙ shown_state-is (ended (mux_of c.args.end.now.mux.version items)) in
    joined_six _ _ _ _ _ _ _ _ _ _ _ _ _ c.in_ok-push_side.ensures c.in_ok-push_text.ensures (c.in_ok-push_state.ensures ∙ ap (λ bs. c.push_text.new.out.items ++ bs) told) c.in_ok-push_line_feed.ensures
    (c.in_ok-push_channels.ensures items at rest s) (c.in_ok-push_channels-2.ensures items at rest s)
