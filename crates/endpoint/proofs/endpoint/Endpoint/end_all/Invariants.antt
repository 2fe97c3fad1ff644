use Rattle.std.proofs.Common.{◌≡◌, ◌++◌, take, drop, map}
use Rattle.endpoint.specs.Changes.{each_ended, ended_for}
use Rattle.endpoint.proofs.endpoint.Endpoint.end_all.Given as goal

abbrev pub invariant-loop-attached : goal.invariant-loop-attached
invariant-loop-attached l = take l.attached-index l.attached-items ++ map (ended_for l.cause) (drop l.attached-index l.attached-items) ≡ each_ended l.cause l.fn.self.connections
