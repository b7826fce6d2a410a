-- A variable is written, or could not be.
use Rattle.std.proofs.Common.{ℕ, List, Option, None, Some, Result, Ok, Err}
use Rattle.acts.specs.Flaw as flaw
use Rattle.code.specs.declared.instruction.Instruction.{Instruction}
use Rattle.plan.specs.Plan.{and_then, onward}
use Rattle.state.specs.Prelude.{Course, Dialogue, Outcome, Scopes, Status}
use Rattle.state.specs.Variables.{flaw_of_trouble, on_name, spelled, stored, writes}
use Rattle.steps.specs.Follows.{Comes, Follows}
use Rattle.steps.specs.Places.{Frame, onward_of}
use Rattle.steps.specs.Spot.{Spot, Did, Went}
use Rattle.steps.specs.Storing.{on_written, storing}
use Rattle.steps.proofs.Leads.Resumed.{Amid, failure_leads}
use Rattle.tclstate.specs.Scopes.{Trouble, written}

module _ {A X : Type 0} (code : List (Instruction A)) (last : Status → Outcome → Dialogue X) where
  written_leads : (r : Result Scopes Trouble) (name : List ℕ) (spot : Spot) (levels : ℕ)
      (fs : List Frame) (s : Status) → Amid code last spot levels fs → (next : Status → Did)
      (course : Status → Course) →
      ((t : Status) → Follows code last (next t)
      (and_then (course t) (onward (onward_of last levels fs)))) →
      Follows code last (on_written r name spot s next)
      (and_then (stored r name s course) (onward (onward_of last levels fs)))
  written_leads (Ok scopes) name spot levels fs s amid next course f =
      f (record s { scopes = scopes })
  written_leads (Err trouble) name spot levels fs s amid next course f =
      failure_leads code last (flaw_of_trouble trouble name) spot levels fs s amid

  -- a value is written to the variable that is named
  pub stores_lead : (n : Option (List ℕ × Option (List ℕ))) (value : List ℕ) (spot : Spot)
      (levels : ℕ) (fs : List Frame) (s : Status) → Amid code last spot levels fs →
      (course : Status → Course) →
      ((t : Status) → Comes code last spot t
      (and_then (course t) (onward (onward_of last levels fs)))) →
      Follows code last (storing n value spot s)
      (and_then (on_name n s (λ name index. writes name index value s course))
      (onward (onward_of last levels fs)))
  stores_lead None value spot levels fs s amid course f =
      failure_leads code last flaw.BadVariable spot levels fs s amid
  stores_lead (Some n) value spot levels fs s amid course f =
      written_leads (written s.scopes n.0 n.1 value) (spelled n.0 n.1) spot levels fs s amid
      (λ t. Went spot t) course f
