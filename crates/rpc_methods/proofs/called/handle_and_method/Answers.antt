-- The slash is a byte of its own, and a handle fits.
use Rattle.std.proofs.Common.{arith, ◌<◌, length}
use Rattle.std.proofs.lemmas.Str.{IsCharBoundary-after_ascii}
use Rattle.rpc_methods.proofs.Handles.{handle_fits}
use Rattle.rpc_methods.proofs.called.handle_and_method.Goals as goal

pub range_from-requires : goal.range_from-requires
range_from-requires c =
    let within : c.loop-count.count < length c.args.text.now = rw c.as_bytes-byte-items.ensures.value at c.loop-count-test.true in
    let slash = rw c.as_bytes-byte-items.ensures.value at c.in-47.is in
    λ _. IsCharBoundary-after_ascii c.args.text.now c.loop-count.count c.utf8.text within (omega (arith, slash))

pub overflow_mul-handle : goal.overflow_mul-handle
overflow_mul-handle c = omega (arith, handle_fits c.loop-count.handle c.loop-count.count 0 c.loop-count.invariant.1 (omega arith) (omega arith))

pub overflow_add-handle : goal.overflow_add-handle
overflow_add-handle c = omega (arith, handle_fits c.loop-count.handle c.loop-count.count c.from.result c.loop-count.invariant.1 (omega arith) (omega arith))
