use Rattle.message_framing.proofs.Parts.{header_has_part, part_has_header}
use Rattle.message_framing.proofs.laws.headers_are_parts.Goals as goal

pub returns : goal.returns
returns c = λ bytes lines. (header_has_part bytes lines, part_has_header bytes lines)
