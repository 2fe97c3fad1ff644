use Rattle.std.proofs.Common.{◌≡◌, arith, sym, ap, Some, drop}
use Rattle.wire_base.proofs.Moved.{moved}
use Rattle.wire_base.proofs.in_memory.MemSourceSource.read.Goals as goal

pub returns-clause-bytes : goal.returns-clause-bytes
returns-clause-bytes c =
    let e : c.rest_of-rest.result.now ≡ drop c.args.self.now.at c.args.self.now.bytes = rw c.as_bytes.ensures at c.rest_of-rest.ensures in
    let h = moved c.args.self.now.bytes _ c.args.self.now.at c.min-count.result (rw (← e) (omega (arith, c.min-count.ensures))) in
    rw (c.copy_from_slice.ensures.after, e) (ap Some (sym h))
