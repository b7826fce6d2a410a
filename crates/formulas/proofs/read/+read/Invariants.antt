use Rattle.std.proofs.Common.{◌<◌, ◌≤◌, ◌+◌, ◌*◌, length}
use Rattle.formulas.specs.View.{formula_of}
use Rattle.formulas.proofs.Steps.{WholeSoFar, ArgumentsSoFar}
use Rattle.formulas.proofs.read.+read.Given as goal

abbrev pub decreases-read_operand : goal.decreases-read_operand
decreases-read_operand g l = 4 * l.depth

abbrev pub decreases-read_whole : goal.decreases-read_whole
decreases-read_whole g l = 4 * l.depth + 1

abbrev pub decreases-read_choice : goal.decreases-read_choice
decreases-read_choice g l = 4 * l.depth + 2

abbrev pub decreases-read_arguments : goal.decreases-read_arguments
decreases-read_arguments g l = 4 * l.depth + 2

abbrev pub invariant-read_whole-loop-operator : goal.invariant-read_whole-loop-operator
invariant-read_whole-loop-operator g l = record {
  tree : WholeSoFar l.depth l.text l.rest (formula_of l.first) l.links.items;
  shorter : length l.rest < length l.text;
}

abbrev pub decreases-read_whole-loop-operator : goal.decreases-read_whole-loop-operator
decreases-read_whole-loop-operator g l = length l.rest

abbrev pub invariant-read_arguments-loop-arguments : goal.invariant-read_arguments-loop-arguments
invariant-read_arguments-loop-arguments g l = record {
  tree : ArgumentsSoFar l.depth l.function l.text l.rest l.arguments.items;
  shorter : length l.rest ≤ length l.text;
}

abbrev pub decreases-read_arguments-loop-arguments : goal.decreases-read_arguments-loop-arguments
decreases-read_arguments-loop-arguments g l = length l.rest
