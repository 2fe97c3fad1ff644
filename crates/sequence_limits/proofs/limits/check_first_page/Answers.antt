use Rattle.message_body.specs.Written.{encoder}
use Rattle.sequence_limits.proofs.Checked.{next_bytes, next_depth}
use Rattle.sequence_limits.proofs.limits.check_first_page.Goals as goal

pub check_page-requires-clause-bytes : goal.check_page-requires-clause-bytes
check_page-requires-clause-bytes c = rw c.in-Ok.ensures (next_bytes (encoder c.args.encoding) c.args.page c.args.values.now c.requires)

pub check_page-requires-clause-depth : goal.check_page-requires-clause-depth
check_page-requires-clause-depth c = rw c.in-Ok.ensures (next_depth (encoder c.args.encoding) c.args.page c.args.values.now c.requires)
