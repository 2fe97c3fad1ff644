use Rattle.std.proofs.Common.{Ok, Err, sym, ap}
use Rattle.pack_value.specs.Answer.{step_of}
use Rattle.wire_base.specs.Values.{max_nesting}
use Rattle.pack_value.specs.Reading.{value_at}
use Rattle.wire_base.specs.declared.reading.Fault.TheVariants.{Ends, Breaks}
use Rattle.pack_value.proofs.Fronts.{rest_within, left_within, front_is, failed}
use Rattle.pack_value.proofs.decoder.step_at.Goals as goal

pub overflow_sub-result : goal.overflow_sub-result
overflow_sub-result c = rest_within c.args.bytes.now (c.in-Ok.value, c.in-Ok.rest.now) c.in-Ok.ensures

pub overflow_sub-result-in-Err-Fault-Breaks : goal.overflow_sub-result-in-Err-Fault-Breaks
overflow_sub-result-in-Err-Fault-Breaks c =
    let w = c.in-Err-Fault-Breaks in
    left_within c.args.bytes.now w.reason w.left (failed w.field-0 w.field-0-0 (Breaks w.left w.reason) (value_at max_nesting c.args.bytes.now) w.field-0-is w.field-0-0-is w.ensures)

pub returns-in-Ok : goal.returns-in-Ok
returns-in-Ok c = sym (ap (step_of c.args.at.0) (front_is c.args.bytes.now (Ok (c.in-Ok.value, c.in-Ok.rest.now)) c.in-Ok.ensures))

pub returns-in-Err-Fault-Ends : goal.returns-in-Err-Fault-Ends
returns-in-Err-Fault-Ends c =
    let w = c.in-Err-Fault-Ends in
    sym (ap (step_of c.args.at.0) (front_is c.args.bytes.now (Err Ends) (failed w.field-0 w.field-0-0 Ends (value_at max_nesting c.args.bytes.now) w.field-0-is w.field-0-0-is w.ensures)))

pub returns-in-Err-Fault-Breaks : goal.returns-in-Err-Fault-Breaks
returns-in-Err-Fault-Breaks c =
    let w = c.in-Err-Fault-Breaks in
    sym (ap (step_of c.args.at.0) (front_is c.args.bytes.now (Err (Breaks w.left w.reason)) (failed w.field-0 w.field-0-0 (Breaks w.left w.reason) (value_at max_nesting c.args.bytes.now) w.field-0-is w.field-0-0-is w.ensures)))
