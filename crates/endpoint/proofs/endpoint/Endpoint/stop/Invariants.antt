use Rattle.std.proofs.Common.{◌≡◌, ◌++◌, take, drop, map}
use Rattle.endpoint.specs.Changes.{each_stopped, stopped_one}
use Rattle.endpoint.proofs.endpoint.Endpoint.stop.Given as goal

abbrev pub invariant-loop-attached : goal.invariant-loop-attached
invariant-loop-attached l = take l.attached-index l.attached-items ++ map stopped_one (drop l.attached-index l.attached-items) ≡ each_stopped l.fn.self.connections
