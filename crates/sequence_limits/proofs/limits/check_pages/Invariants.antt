use Rattle.std.proofs.Common.{◌≡◌, drop, length, None}
use Rattle.message_body.specs.Written.{encoder}
use Rattle.sequence_limits.proofs.Checked.{refusal_of}
use Rattle.rpc_items.specs.Pages.{page_values}
use Rattle.sequence_limits.specs.Limits.{pages_refusal, values_refusal}
use Rattle.sequence_limits.proofs.limits.check_pages.Given as goal

-- the pages of what is left are refused as all pages are
abbrev pub invariant-loop-left : goal.invariant-loop-left
invariant-loop-left l = record {
  clear : values_refusal (encoder l.encoding) l.left ≡ None;
  same : pages_refusal (encoder l.encoding) (page_values (length l.values) l.page (drop l.first l.values)) ≡ refusal_of (encoder l.encoding) l.page l.left;
}

abbrev pub decreases-loop-left : goal.decreases-loop-left
decreases-loop-left l = length l.left
