use Rattle.std.proofs.Common.{◌≤◌, ◌+◌}
use Rattle.machine.specs.Frames.{Onward, onward_of, stack, weight, words_in}
use Rattle.state.specs.Budget.{again_of}
use Rattle.state.specs.Prelude.{Status, FitsState, outcome_of}
use Rattle.machine.proofs.Machines.{Comes}
use Rattle.machine.proofs.unwinding.unwind.Given as goal

abbrev pub invariant-frames : goal.invariant-frames
invariant-frames g l = record {
  comes : (last : Onward) (s : Status) → FitsState l.fn.state s →
      Comes last (stack l.frames) l.state (outcome_of l.outcome)
      (onward_of last (stack l.fn.frames) s (outcome_of l.fn.outcome));
  lighter : weight (stack l.frames) ≤ weight (stack l.fn.frames);
  waiting : again_of (outcome_of l.outcome) + words_in (stack l.frames)
      ≤ again_of (outcome_of l.fn.outcome) + words_in (stack l.fn.frames);
  left : l.state.left ≤ l.fn.state.left;
}

-- each frame that is taken off leaves less that may be put on the stack
abbrev pub decreases-frames : goal.decreases-frames
decreases-frames g l = weight (stack l.frames)
