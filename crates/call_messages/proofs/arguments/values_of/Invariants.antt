use Rattle.std.proofs.Common.{◌≡◌, ◌+◌, ◌≤◌, ◌++◌, None, drop, length}
use Rattle.rpc_items.specs.Arguments.{most_drawn}
use Rattle.rpc_items.specs.Made.{made_in}
use Rattle.rpc_items.specs.Saying.{arg_values}
use Rattle.call_messages.proofs.arguments.values_of.Given as goal

abbrev pub invariant-loop-arg : goal.invariant-loop-arg
invariant-loop-arg l = record {
  said : l.values ++ arg_values l.number l.drawn (drop l.arg-index l.args) ≡ arg_values l.number l.handles l.args;
  room : l.drawn + length (made_in None (drop l.arg-index l.args)) ≤ most_drawn;
}
