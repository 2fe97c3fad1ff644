use Rattle.std.proofs.Common.{◌++◌, ap, ◌∙◌}
use Rattle.std.proofs.lemmas.Result.{on_ok_weaker}
use Rattle.transcript.specs.Report.{handle_line_of}
use Rattle.transcript.proofs.summary.push_handle.Goals as goal

pub returns : goal.returns
returns c = λ items at rest s.
    on_ok_weaker c.push_handle_line.result
    (λ is. is ∙ ap (λ live. c.args.out.now.items ++ handle_line_of c.args.side c.args.key c.args.handle live) (c.handle.ensures items at rest s))
    c.push_handle_line.ensures
