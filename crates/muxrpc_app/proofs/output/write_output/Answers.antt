use Rattle.std.proofs.Common.{◌∙◌}
use Rattle.muxrpc_app.proofs.Written.{wrote_all}
use Rattle.muxrpc_app.proofs.output.write_output.Goals as goal

pub returns-clause-front : goal.returns-clause-front
returns-clause-front g c = wrote_all c.flush.result _ _ c.args.bytes.now (c.flush.ensures.bytes ∙ c.in_ok-write_bytes.ensures.written)
