use Rattle.std.proofs.Common.{◌-◌, length}
use Rattle.live.specs.Kept.{ArePast, ids_of}
use Rattle.live.proofs.peers.pass.Given as goal

abbrev pub invariant-loop-place : goal.invariant-loop-place
invariant-loop-place g l = ArePast (ids_of g.L.Owned.owner l.list) l.place l.id.0

abbrev pub decreases-loop-place : goal.decreases-loop-place
decreases-loop-place g l = length l.list - l.place
