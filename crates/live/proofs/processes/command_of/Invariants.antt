use Rattle.std.proofs.Common.{◌≡◌, List, ◌++◌, drop, map}
use Rattle.live.specs.Calls.{Arg, Made}
use Rattle.live.proofs.processes.command_of.Given as goal

-- the arguments so far were added, in order
abbrev pub invariant-loop-arg : goal.invariant-loop-arg
invariant-loop-arg g l =
    (done : List _) × (done ++ drop l.arg-index l.args ≡ l.args)
    × Made g.S.System.step l.initial.system (map (λ word. Arg word.items) done) l.system
