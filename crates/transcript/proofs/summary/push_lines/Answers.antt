use Rattle.std.proofs.Common.{◌++◌, ap, ◌∙◌}
use Rattle.std.proofs.lemmas.Result.{on_ok_weaker}
use Rattle.transcript.specs.Report.{channel_line_of}
use Rattle.transcript.proofs.Joined.{joined_four}
use Rattle.transcript.proofs.summary.push_lines.Goals as goal

pub returns : goal.returns
returns c = λ items at rest s.
    on_ok_weaker c.push_peer_handles.result
    (joined_four c.args.out.now.items _ _ _ _ c.push_channel_line.new.out.items c.push_requests.new.out.items c.push_own_handles.new.out.items _
    (c.in_ok-push_channel_line.ensures ∙ ap (λ tally. c.args.out.now.items ++ channel_line_of c.args.side c.args.key tally) (c.tally.ensures items at rest s))
    (c.in_ok-push_requests.ensures items at rest s) (c.in_ok-push_own_handles.ensures items at rest s))
    (c.push_peer_handles.ensures items at rest s)
