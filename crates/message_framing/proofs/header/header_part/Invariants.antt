use Rattle.std.proofs.Common.{◌≡◌, ◌-◌, ◌≤◌, length, option_map}
use Rattle.message_framing.specs.Lines.{header_lines}
use Rattle.message_framing.specs.Header.{header_of, header_from}
use Rattle.message_framing.proofs.header.header_part.Given as goal

abbrev pub invariant-loop-line : goal.invariant-loop-line
invariant-loop-line l = record {
  within : length l.rest ≤ length l.bytes;
  goes_on : option_map header_of (header_lines l.bytes) ≡ option_map (header_from (length l.bytes - length l.rest) l.said) (header_lines l.rest);
}

abbrev pub decreases-loop-line : goal.decreases-loop-line
decreases-loop-line l = length l.rest
