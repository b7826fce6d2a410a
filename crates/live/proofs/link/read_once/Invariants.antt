use Rattle.std.proofs.Common.{◌≡◌, ◌≤◌, List, map, length}
use Rattle.std.specs.List.{AllByRecursion}
use Rattle.live.specs.Calls.{Got, Made}
use Rattle.live.specs.Calls as call
use Rattle.live.specs.Look.{IsNothing}
use Rattle.live.proofs.link.read_once.Given as goal

-- the reads so far found nothing
abbrev pub invariant-tries : goal.invariant-tries
invariant-tries g l =
    (gots : List Got) × (l._tried ≤ length gots) × AllByRecursion IsNothing gots
    × Made g.S.System.step l.initial.system
    (map (call.Read (g.S.Link.Owned.owner l.initial.link)) gots) l.system
    × (g.S.Link.Owned.owner l.link ≡ g.S.Link.Owned.owner l.initial.link)
