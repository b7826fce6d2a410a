-- Turns of expect under frames.
use Rattle.std.proofs.Common.{◌≡◌, ℕ, List, [], ◌∷◌, Box, sym, ap}
use Rattle.tclparse.specs.ScriptTree.{ScriptTree}
use Rattle.code.specs.declared.made.Entry.TheVariants as entry
use Rattle.code.specs.declared.made.Made.TheVariants as made
use Rattle.machine.specs.Frames.{Onward, left_of}
use Rattle.steps.specs.Goes.{Goes, here, calls}
use Rattle.machine.specs.declared.frame.Frame.{Frame}
use Rattle.machine.specs.declared.frame.Frame.TheVariants as frame
use Rattle.steps.proofs.Leads.Silent.{same_goes, then_goes}
use Rattle.expects.specs.Turn.{turns}
use Rattle.expects.specs.View.{course_of_turned}
use Rattle.expects.specs.declared.turn.Turn as turning
use Rattle.expects.specs.declared.turn.Turned.TheVariants as came
use Rattle.plan.specs.Plan.{goes}
use Rattle.state.specs.Prelude.{gives, TurnTree, Status}
use Rattle.state.specs.Piece.{Turn}

module _ {A : Type 0} (last : Onward) (fs : List (Frame A)) where
  -- a turn begins
  pub turn_goes : (turn : TurnTree) (levels : ℕ) (s : Status) →
      Goes (left_of last (goes (Turn turn levels) s) fs) (left_of last (turns turn levels s) fs)
  turn_goes turn levels s = calls here

  -- the body of what was chosen stands on the stack above its turn
  pub body_goes : (tree : ScriptTree) (levels : ℕ) (turn : Box (turning.Turn A) A)
      (new : List (Frame A)) (s : Status) →
      new ≡ frame.Code (entry.Made (made.Script tree)) levels ∷ frame.Turn turn ∷ fs →
      Goes (left_of last (course_of_turned (came.Runs tree levels turn) s) fs)
      (left_of last (gives [] s) new)
  body_goes tree levels turn new s on =
      then_goes (calls here) (same_goes (ap (λ l. left_of last (gives [] s) l) (sym on)))
