use Rattle.muxrpc_app.proofs.Written.{front_later}
use Rattle.muxrpc_app.proofs.standard_error.write_texts.Goals as goal

pub returns-in_err-write_bytes-clause-front : goal.returns-in_err-write_bytes-clause-front
returns-in_err-write_bytes-clause-front g c =
    front_later c.from_residual.result (λ t. t.now) c.args.texts.now c.loop-text.text-index _ c.as_bytes.result.now _ _ _ (c.loop-text-test.true) c.as_bytes.ensures.value c.loop-text.invariant.written c.in_err-write_bytes.ensures.front
