-- What waits for the answer to an act, and what follows it.
use Rattle.std.specs.Prelude.{ℕ}
use Rattle.state.specs.Prelude.{Deed, Reply, Course, Status, outcome_of}
use Rattle.commands.specs.View as table
use Rattle.machine.specs.declared.waits.Waits.{Waits}
use Rattle.machine.specs.declared.waits.Waits.TheVariants as waits
use Rattle.expects.specs.View as turning
use Rattle.state.specs.Budget.{again_of}
use Rattle.state.specs.declared.leaf.Leaf.{Leaf}
use Rattle.state.specs.declared.leaf.Leaf.TheVariants as leaf

-- what follows the answer to an act of a command that runs no script, or of a turn of expect
abbrev pub next_of : {A : Type 0} → Waits A → Deed → Status → Reply → Course
next_of (waits.Command held) = table.next_of held
next_of (waits.Turn held) = turning.next_of held

-- an outcome of exp_continue counts as one: a turn of expect may begin by it
abbrev pub again_in : {A W : Type 0} → Leaf A W → ℕ
again_in (leaf.Has outcome) = again_of (outcome_of outcome)
again_in (leaf.Asks act held) = 0
