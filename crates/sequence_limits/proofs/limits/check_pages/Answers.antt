use Rattle.std.proofs.Common.{◌≡◌, ◌==◌, length, false}
use Rattle.std.proofs.lemmas.Result.{err_from_is_err_and}
use Rattle.message_body.specs.Written.{encoder}
use Rattle.sequence_limits.proofs.Checked.{all_refused, behind_clear, goes_on, stops}
use Rattle.sequence_limits.proofs.limits.check_pages.Goals as goal

pub loop-left-init : goal.loop-left-init
loop-left-init c = record {
  clear = rw c.behind-left.ensures (behind_clear (encoder c.args.encoding) c.args.first c.args.values.now c.requires.values);
  same = all_refused (encoder c.args.encoding) c.args.page c.args.first c.args.values.now c.behind-left.result.now c.requires.page c.behind-left.ensures;
}

pub returns-in_err-check_first_page : goal.returns-in_err-check_first_page
returns-in_err-check_first_page c =
    let p = err_from_is_err_and c.from_residual.result c.from_residual.ensures.1 in
    let some : (length c.loop-left.left.now == 0) ≡ false = cc in
    rw (p.1, p.2) (stops (encoder c.args.encoding) c.args.page c.loop-left.left.now _ c.in_err-check_first_page.field-0.0 c.requires.page some c.loop-left.invariant.same c.in_err-check_first_page.ensures)

pub loop-left-preserved : goal.loop-left-preserved
loop-left-preserved c =
    let some : (length c.loop-left.left.now == 0) ≡ false = cc in
    record {
      clear = rw c.behind-left-in-loop-left.ensures (behind_clear (encoder c.args.encoding) c.args.page c.loop-left.left.now c.loop-left.invariant.clear);
      same = goes_on (encoder c.args.encoding) c.args.page c.loop-left.left.now c.behind-left-in-loop-left.result.now _ c.requires.page some c.loop-left.invariant.same c.in_ok-check_first_page.ensures c.behind-left-in-loop-left.ensures;
    }
