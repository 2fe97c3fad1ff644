use Rattle.pack_value.proofs.Fronts.{is_got, is_refused, is_short, gets, refuses}
use Rattle.pack_value.proofs.decoder.decode.Goals as goal

pub returns-clause-got : goal.returns-clause-got
returns-clause-got c = is_got c.step_at.result c.args.bytes.now c.args.at.0 c.step_at.ensures

pub returns-clause-spelled : goal.returns-clause-spelled
returns-clause-spelled c = gets c.step_at.result c.args.bytes.now c.args.at.0 c.step_at.ensures

pub returns-clause-refused : goal.returns-clause-refused
returns-clause-refused c = is_refused c.step_at.result c.args.bytes.now c.args.at.0 c.step_at.ensures

pub returns-clause-broken : goal.returns-clause-broken
returns-clause-broken c = refuses c.step_at.result c.args.bytes.now c.args.at.0 c.step_at.ensures

pub returns-clause-short : goal.returns-clause-short
returns-clause-short c = is_short c.step_at.result c.args.bytes.now c.args.at.0 c.step_at.ensures
