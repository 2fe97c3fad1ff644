use Rattle.std.proofs.Common.{◌≡◌, ◌<◌, ◌^◌, drop}
use Rattle.message_framing.specs.Fields.{number_from}
use Rattle.message_framing.proofs.field.number.Given as goal

abbrev pub invariant-loop-byte : goal.invariant-loop-byte
invariant-loop-byte l = (number_from 0 l.value ≡ number_from l.number (drop l.byte-index l.value)) × (l.number < 10 ^ l.byte-index)
