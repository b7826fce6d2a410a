-- What a command does begins where its code stands.
use Rattle.std.proofs.Common.{ℕ, ◌+◌, ◌≤◌, List, []}
use Rattle.code.specs.Doing.{Doing, If, While, For, Catch, DoneAt}
use Rattle.code.specs.declared.instruction.Instruction.{Instruction}
use Rattle.nesting.specs.Doing.{done}
use Rattle.plan.specs.Plan.{and_then, onward}
use Rattle.state.specs.Prelude.{Dialogue, Outcome, Status}
use Rattle.steps.specs.Follows.{Comes}
use Rattle.steps.specs.Layout.{FramesAt}
use Rattle.steps.specs.Places.{Chooses, Frame, brackets, onward_of}
use Rattle.steps.proofs.Leads.Catches.{caught_begins}
use Rattle.steps.proofs.Leads.Loops.{for_begins, while_begins}
use Rattle.steps.proofs.Leads.Meanings.{below_at}
use Rattle.steps.proofs.Leads.Standing.{stands}

module _ {A X : Type 0} (code : List (Instruction A)) (last : Status → Outcome → Dialogue X) where
  pub doing_begins : (levels : ℕ) (fs : List Frame) (s : Status) (doing : Doing) (place end : ℕ) →
      DoneAt code doing place end → FramesAt code end fs → levels + brackets fs ≤ 255 →
      Comes code last (below_at code last place levels [] fs) s
      (and_then (done doing levels s) (onward (onward_of last levels fs)))
  doing_begins levels fs s (If found) place end at behind fits =
      stands code last place levels (Chooses found.tests found.otherwise) fs end s at behind fits
  doing_begins levels fs s (While test body) place end at behind fits =
      while_begins code last levels fs s place test body end at behind fits
  doing_begins levels fs s (For start test step body) place end at behind fits =
      for_begins code last levels fs s place at.0 start test step body end at.1 at.2 at.3 behind fits
  doing_begins levels fs s (Catch body variable) place end at behind fits =
      caught_begins code last levels fs s place at.0 body variable end at.1 at.2 at.3 at.4 behind fits
