use Rattle.std.proofs.Common.{◌≡◌, ◌++◌, take, drop}
use Rattle.message_framing.specs.Fields.{before, after, has}
use Rattle.message_framing.proofs.field.split.Given as goal

abbrev pub invariant-loop-i : goal.invariant-loop-i
invariant-loop-i l = record {
  there : has l.mark l.bytes ≡ has l.mark (drop l.i l.bytes);
  front : before l.mark l.bytes ≡ take l.i l.bytes ++ before l.mark (drop l.i l.bytes);
  back : after l.mark l.bytes ≡ after l.mark (drop l.i l.bytes);
}
