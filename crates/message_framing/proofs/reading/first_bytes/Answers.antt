use Rattle.std.proofs.Common.{arith}
use Rattle.message_framing.specs.declared.reading.TheConstants.{MAX_HEADER}
use Rattle.message_framing.proofs.LineLemmas.{all_taken}
use Rattle.message_framing.proofs.reading.first_bytes.Goals as goal

pub returns-then-bytes-lt-MAX_HEADER-clause-value : goal.returns-then-bytes-lt-MAX_HEADER-clause-value
returns-then-bytes-lt-MAX_HEADER-clause-value c = all_taken MAX_HEADER c.args.bytes.now (omega (arith, c.if-bytes-lt-MAX_HEADER.true))
