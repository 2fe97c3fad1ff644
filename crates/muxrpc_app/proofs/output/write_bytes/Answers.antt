use Rattle.std.proofs.Common.{arith}
use Rattle.std.proofs.lemmas.List.{take_rest}
use Rattle.muxrpc_app.proofs.Written.{wrote_more}
use Rattle.muxrpc_app.proofs.output.write_bytes.Goals as goal

pub writing-preserved : goal.writing-preserved
writing-preserved g c = record {
  written = wrote_more _ _ _ c.writing.at c.in_ok-count.count c.args.bytes.now _ (take_rest c.args.bytes.now c.writing.at) c.writing.invariant.written c.in_ok-count.ensures.bytes;
  later = omega (arith, c.in_ok-count.ensures.cause);
  within = omega (arith, c.in_ok-count.ensures.bound);
}
