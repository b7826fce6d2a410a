-- No piece goes on for ever: after a tick its budget is smaller, and before it takes one it calls
-- only pieces of a lower rank.
use Rattle.std.proofs.Common.{◌≡◌, ℕ, zero, suc, ◌+◌, ◌*◌, ◌<◌, ◌≤◌, List, [], Option, Some, None, refl, arith}
use Rattle.acts.specs.Deed as said
use Rattle.commands.specs.Commands as leaf
use Rattle.commands.proofs.Behaves.{command_behaves}
use Rattle.expects.proofs.Proceeding.{turns_proceed}
use Rattle.expects.specs.Turn.{turns}
use Rattle.plan.specs.Finished.{Falls, Finite}
use Rattle.plan.proofs.Falls.{more_falls}
use Rattle.runs.specs.Scripts.{behind, script, plan_of}
use Rattle.runs.proofs.Pieces.{Inherited, one_holds, turns_hold, rank, top}
use Rattle.runs.proofs.Trees.{has_tree}
use Rattle.state.proofs.Behaves.{behaves_falls}
use Rattle.state.proofs.Proceeding.{proceeds_falls}
use Rattle.state.specs.Prelude.{worth, Course, on_value, Outcome, Gives, Leaves, Stops, Again, AgainRunning, IsTree, Status}
use Rattle.state.specs.Budget.{again_of, budget, left_after}
use Rattle.state.specs.Dialogue.{tick_of}
use Rattle.state.specs.Piece.{Piece, Script, One, Loop, Turn}
use Rattle.tclparse.specs.Fault.{Fault}
use Rattle.tclparse.specs.Tree.{Commands, no_commands}
use Rattle.tclparse.specs.Tree as tree

-- the calls of a course have smaller budgets than t, or t itself and a lower rank than r
abbrev CourseFalls : ℕ → ℕ → Course → Type 0
CourseFalls t r c = Falls IsTree budget left_after rank said.NoMore t r c

-- the course of a command after its tick, or of a loop: any outcome may end it
abbrev FallsFrom : ℕ → Status → Course → Type 0
FallsFrom r s c = CourseFalls (2 * s.left + 1) r c

again_within : (o : Outcome) → again_of o ≤ 1
again_within (Leaves Again value) = omega arith
again_within (Leaves AgainRunning value) = omega arith
again_within _ = omega arith

budget_within : (piece : Piece) (s : Status) → budget piece s ≤ 2 * s.left + 1
budget_within (Script tree levels) s = omega arith
budget_within (One ws levels) s = omega arith
budget_within (Loop loop levels) s = omega arith
budget_within (Turn turn levels) s = omega arith

-- after a tick the calls of a course fall, whatever its rank was before
ticked_falls : (t r : ℕ) (s : Status) (course : Course) → 2 * s.left + 1 < t →
    FallsFrom top s course → CourseFalls t r course
ticked_falls t r s course less falls =
    more_falls IsTree budget left_after rank said.NoMore (2 * s.left + 1) top t r course
    (omega (arith, less)) (λ not. absurd (omega (arith, less, not))) falls

falls_inherited : Inherited FallsFrom
falls_inherited = record {
  over = λ r s o. let one = again_within o in omega (arith, one);
  calls = λ r piece s next below passes each.
      let fits = budget_within piece s in (
        omega (arith, fits),
        λ same. below,
        λ u o less.
            more_falls IsTree budget left_after rank said.NoMore (2 * u.left + 1) r (2 * s.left + 1) r
            (next u o) (omega (arith, less, fits)) (λ same. omega arith) (each u o),
      );
  reading = λ r text s next each tree is. each tree;
  writing = λ r scopes s course falls. falls;
  standing = λ r standing s course falls. falls;
  ticking = λ r left s course is falls.
      ticked_falls (2 * s.left + 1) r (record s { left = left }) course (omega (arith, is)) falls;
}

plain_falls : (s : Status) (words : List (List ℕ)) → FallsFrom top s (leaf.command s words)
plain_falls s words =
    behaves_falls budget left_after rank said.NoMore s.left (2 * s.left + 1) top
    (λ u o less. let one = again_within o in omega (arith, less, one)) (worth s + 4)
    (leaf.command s words) (command_behaves s words)

-- a script, whatever stands before it
module _ (t : ℕ) where
  behind_falls : (fault : Option Fault) (s : Status) (value : List ℕ) → 2 * s.left ≤ t →
      CourseFalls t 1 (behind fault s value)
  behind_falls None s value le = omega (arith, le)
  behind_falls (Some fault) s value le = omega (arith, le)

  value_falls : (next : Status → List ℕ → Course) →
      ((u : Status) (v : List ℕ) → 2 * u.left ≤ t → CourseFalls t 1 (next u v)) →
      (u : Status) (o : Outcome) → left_after u o ≤ t → CourseFalls t 1 (on_value next u o)
  value_falls next each u (Gives value) le = each u value (omega (arith, le))
  value_falls next each u (Leaves code value) le = le
  value_falls next each u (Stops stop) le = le

  script_falls : (levels : ℕ) (cs : Commands) (fault : Option Fault) (s : Status)
      (value : List ℕ) → 2 * s.left ≤ t → CourseFalls t 1 (script levels cs fault s value)
  script_falls levels no_commands fault s value le = behind_falls fault s value le
  script_falls levels (tree.command ws cs) fault s value le = (
    le,
    λ same. omega arith,
    λ u o less.
        value_falls (script levels cs fault) (script_falls levels cs fault) u o
        (omega (arith, less, le)),
  )

-- one command: it takes its tick first
tick_falls : (left : ℕ) (s : Status) (next : Status → Course) → s.left ≡ left →
    ((u : Status) → FallsFrom top u (next u)) → CourseFalls (2 * s.left) 0 (tick_of left s next)
tick_falls zero s next is each = omega arith
tick_falls (suc left) s next is each =
    let behind : Status = record s { left = left } in
    ticked_falls (2 * s.left) 0 behind (next behind) (omega (arith, is)) (each behind)

falls : (piece : Piece) (s : Status) → CourseFalls (budget piece s) (rank piece) (plan_of piece s)
falls (Script tree levels) s =
    script_falls (2 * s.left) levels tree.commands tree.fault s [] (omega arith)
falls (One ws levels) s =
    tick_falls s.left s _ refl (one_holds FallsFrom falls_inherited plain_falls levels ws)
falls (Loop loop levels) s = turns_hold FallsFrom falls_inherited plain_falls loop levels s
falls (Turn turn levels) s =
    proceeds_falls rank said.NoMore 2 (2 * s.left + 1) (worth s) (turns turn levels s)
    (turns_proceed turn levels s)

pub finite : Finite plan_of IsTree
finite = record {
  budget = budget;
  remains = left_after;
  rank = rank;
  last = said.NoMore;
  falls = falls;
  has_tree = has_tree;
}
