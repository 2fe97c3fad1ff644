use Rattle.stream_view.proofs.Told.{view_cut}
use Rattle.stream_view.proofs.view.push_view.Goals as goal

pub returns-in_err-refusal-clause-cut : goal.returns-in_err-refusal-clause-cut
returns-in_err-refusal-clause-cut c =
    view_cut c.from_residual-in_err-refusal.result c.args.out.now.items c.push_line.new.out.items c.push_lines.new.out.items _ c.in_ok-push_line.ensures.ok c.in_err-refusal.ensures.cut
