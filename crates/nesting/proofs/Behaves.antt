-- A property that is closed under the steps of which courses are made holds of each command that
-- runs scripts.
use Rattle.std.proofs.Common.{ℕ, List}
use Rattle.nesting.proofs.ClosedBodies.{catch_closed, eval_closed}
use Rattle.nesting.proofs.Loops.{foreach_closed}
use Rattle.nesting.proofs.Switching.{switch_closed}
use Rattle.nesting.proofs.Closed.{conditional_closed, expr_closed, for_closed, while_closed}
use Rattle.nesting.specs.Commands.{does}
use Rattle.nesting.specs.Control as control
use Rattle.nesting.specs.Control.{Control}
use Rattle.state.proofs.Closed.{Closed, Loops, Ticks}
use Rattle.state.specs.Prelude.{Course, Status}

module _ (P : Status → Course → Type 0) (closed : Closed P) where
  -- each command
  pub does_closed : Ticks P P → Loops P → (c : Control) (levels : ℕ) (args : List (List ℕ))
      (s : Status) → P s (does c levels args s)
  does_closed ticks loops control.Catch levels args s = catch_closed P closed levels args s
  does_closed ticks loops control.Eval levels args s = eval_closed P closed levels args s
  does_closed ticks loops control.Expr levels args s = expr_closed P closed levels args s
  does_closed ticks loops control.For levels args s = for_closed P closed loops levels args s
  does_closed ticks loops control.Foreach levels args s =
      foreach_closed P closed ticks levels args s
  does_closed ticks loops control.If levels args s = conditional_closed P closed levels args s
  does_closed ticks loops control.Switch levels args s = switch_closed P closed levels args s
  does_closed ticks loops control.While levels args s = while_closed P closed loops levels args s
