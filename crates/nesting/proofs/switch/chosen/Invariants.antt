use Rattle.std.proofs.Common.{ℕ, List, Option, length}
use Rattle.nesting.specs.Switch.{chosen, mode_of}
use Rattle.state.specs.Prelude.{Course, Reaches, Status}
use Rattle.nesting.proofs.switch.chosen.Given as goal

abbrev pub invariant-arms : goal.invariant-arms
invariant-arms g l =
    (s : Status) (next : Option (List ℕ) → Course) →
    Reaches (chosen (mode_of l.mode) l.text l.fn.arms s next)
    (chosen (mode_of l.mode) l.text l.rest s next)

abbrev pub decreases-arms : goal.decreases-arms
decreases-arms g l = length l.rest
