use Rattle.std.proofs.Common.{◌≡◌, drop, map}
use Rattle.processes.specs.Wait.{among}
use Rattle.state.specs.View.{unreaped_of}
use Rattle.processes.proofs.wait.unreaped_among.Given as goal

-- none of the ids so far is the one that the text spells
abbrev pub invariant-loop-other : goal.invariant-loop-other
invariant-loop-other l =
    among (map unreaped_of (drop l.other-index l.unreaped)) l.text
    ≡ among (map unreaped_of l.unreaped) l.text
