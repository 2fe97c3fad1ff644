use Rattle.rpc_items.proofs.Reported.{reports_more, reports_unkept, taken_other, taken_this}
use Rattle.rpc_items.proofs.laws.reports_come_in_order.Goals as goal

pub returns : goal.returns
returns c = record { kept = reports_more; unkept = reports_unkept; taken = taken_this; others = taken_other }
