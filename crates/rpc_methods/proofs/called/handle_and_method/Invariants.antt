use Rattle.std.proofs.Common.{◌≡◌, ◌<◌, ◌^◌, drop}
use Rattle.rpc_items.specs.Meanings.{calls_by}
use Rattle.rpc_methods.proofs.called.handle_and_method.Given as goal

abbrev pub invariant-loop-count : goal.invariant-loop-count
invariant-loop-count l = (calls_by 0 0 l.fn.text ≡ calls_by l.handle l.count (drop l.count l.fn.text)) × (l.handle < 10 ^ l.count)
