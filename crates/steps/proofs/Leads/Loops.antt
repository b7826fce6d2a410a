-- A loop: a turn begins, a part of it is over, the loop goes on with its test, and it is over.
use Rattle.std.proofs.Common.{◌≡◌, ℕ, ◌+◌, ◌≤◌, List, [], ◌∷◌, Option, None, Some, Ok, Err, refl, sym, subst, arith}
use Rattle.std.specs.Prelude.{slice_get}
use Rattle.code.specs.Code.{At, BodyAt, ExpressionAt, HasFormula, TurnsAt, by_formula, from_text, no_step, no_turns, steps, turns}
use Rattle.code.specs.declared.instruction.Instruction.{Instruction}
use Rattle.code.specs.declared.instruction.Instruction.TheVariants as i
use Rattle.nesting.specs.ForLoop as fors
use Rattle.nesting.specs.ForLoop.{started}
use Rattle.nesting.specs.Loop as loops
use Rattle.nesting.specs.Loop.{again, behind_body, on_step}
use Rattle.nesting.specs.WhileLoop as whiles
use Rattle.plan.specs.Plan.{and_then, onward}
use Rattle.state.specs.Piece.{FormulaText, ScriptText}
use Rattle.state.specs.Prelude.{Dialogue, inside, IsTree, LoopTree, on_value, Outcome, ScriptTree, Status}
use Rattle.steps.specs.Follows.{Comes, Follows, Here}
use Rattle.steps.specs.Goes.{here, calls, reads}
use Rattle.steps.specs.Layout.{EntersAt, EvaluatesAt, formula_code, formula_text, FramesAt, LeadsTo, LoopAt, PartAt, RepeatsAt, StepsAt, jumps, there}
use Rattle.steps.specs.Loops.{begin_turn}
use Rattle.steps.specs.Machine.{machine}
use Rattle.steps.specs.Operand.{Turning}
use Rattle.steps.specs.Places.{Has, Enters, Lacks, Repeats, Finishes, Frame, For, Turns, brackets, left_of, onward_of, spot_at}
use Rattle.steps.proofs.Leads.Bodies.{body_read, inside_passes}
use Rattle.steps.proofs.Leads.Formulas.{evaluates_lead}
use Rattle.steps.proofs.Leads.Grows.{body_grows}
use Rattle.steps.proofs.Leads.Meanings.{below_at, jump_leads}
use Rattle.steps.proofs.Leads.Silent.{same_goes}
use Rattle.steps.proofs.Leads.Standing.{by, silently, sooner, stands, stands_here}
use Rattle.tclparse.specs.Formula.{Formula}

-- what a test is read as, and where that stands
record Tested {A : Type 0} (code : List (Instruction A)) (place : ℕ) (test : List ℕ) (end : ℕ) :
    Type 0 where
  formula : Formula
  is : IsTree (FormulaText test) (Ok formula)
  at : EvaluatesAt code place formula end

test_read : {A : Type 0} (code : List (Instruction A)) {place : ℕ} {test : List ℕ} {end : ℕ} →
    HasFormula test → ExpressionAt code place test end → Tested code place test end
test_read code read (by_formula {f = f} is at) =
    record { formula = f; is = is; at = formula_code at }
test_read code read (from_text at) =
    record { formula = read.0; is = read.1; at = formula_text at read.1 }

module _ {A X : Type 0} (code : List (Instruction A)) (last : Status → Outcome → Dialogue X) where
  -- the body of a turn begins
  pub turn_begins : (levels : ℕ) (fs : List Frame) (s : Status) (loop : LoopTree) (turn : ℕ)
      (at : LoopAt code loop turn) → FramesAt code (turn + 2) fs → levels + brackets fs ≤ 255 →
      Comes code last (begin_turn at.body at.ends (below_at code last (turn + 1) levels [] fs)) s
      (and_then (inside levels loop.body s (behind_body loop levels))
      (onward (onward_of last levels fs)))
  turn_begins levels fs s loop turn at behind fits =
      sooner code last _ s
      (same_goes (inside_passes levels loop.body s (behind_body loop levels) (onward_of last levels
      fs)))
      (stands code last at.body levels (Enters loop.body) (Turns loop (Some at.ends) turn ∷ fs)
      at.ends s at.enters (at, (refl, refl), behind) fits)

  -- the end of a turn
  turn_over : (levels : ℕ) (fs : List Frame) (s : Status) (v : List ℕ) (loop : LoopTree)
      (place : ℕ) (ends : Option ℕ) (turn : ℕ) (at : LoopAt code loop turn) →
      At code place i.EndTurn → at.test ≡ place + 1 → FramesAt code (turn + 2) fs →
      levels + brackets fs ≤ 255 →
      Follows code last
      (machine (slice_get code place) (spot_at place levels (Has v) (Turns loop ends turn ∷ fs)) s)
      (and_then (again loop levels s) (onward (onward_of last levels fs)))
  turn_over levels fs s v loop place ends turn at ended is behind fits =
      by code last i.EndTurn (spot_at place levels (Has v) (Turns loop ends turn ∷ fs)) s _ ended
      (stands code last (place + 1) levels (Repeats loop) fs (turn + 2) s
      (turn, at, subst (λ n. LeadsTo code (place + 1) n) (sym is) there, refl) behind fits)

  -- the body of a turn is over: the turn is, or the script after it begins
  body_over : (levels : ℕ) (fs : List Frame) (s : Status) (v : List ℕ) (loop : LoopTree)
      (place turn : ℕ) (at : LoopAt code loop turn) (step : Option ScriptTree) →
      StepsAt code place step at.test → FramesAt code (turn + 2) fs →
      levels + brackets fs ≤ 255 →
      Follows code last
      (machine (slice_get code place)
      (spot_at place levels (Has v) (Turns loop (Some place) turn ∷ fs)) s)
      (and_then (loops.steps step levels (again loop levels) s) (onward (onward_of last levels fs)))
  body_over levels fs s v loop place turn at None step_at behind fits =
      turn_over levels fs s v loop place (Some place) turn at step_at.0 step_at.1 behind fits
  body_over levels fs s v loop place turn at (Some step) step_at behind fits =
      by code last i.Step (spot_at place levels (Has v) (Turns loop (Some place) turn ∷ fs)) s _
      step_at.1
      (sooner code last _ s
      (same_goes (inside_passes levels step s (on_step (again loop levels)) (onward_of last levels
      fs)))
      (stands code last (place + 1) levels (Enters step) (Turns loop None turn ∷ fs) step_at.0 s
      step_at.2 (at, (step_at.3, step_at.4), behind) fits))

  -- a part of a turn is over
  pub part_over : (levels : ℕ) (fs : List Frame) (s : Status) (v : List ℕ) (loop : LoopTree)
      (place : ℕ) (ends : Option ℕ) (turn : ℕ) (at : LoopAt code loop turn) →
      PartAt code place loop turn at ends → FramesAt code (turn + 2) fs →
      levels + brackets fs ≤ 255 →
      Follows code last
      (machine (slice_get code place) (spot_at place levels (Has v) (Turns loop ends turn ∷ fs)) s)
      (left_of last levels (Has v) (Turns loop ends turn ∷ fs) s)
  part_over levels fs s v loop place (Some end) turn at part behind fits =
      subst (λ n. Follows code last
      (machine (slice_get code place)
      (spot_at place levels (Has v) (Turns loop (Some n) turn ∷ fs)) s)
      (and_then (loops.steps loop.step levels (again loop levels) s)
      (onward (onward_of last levels fs))))
      (sym part.0)
      (body_over levels fs s v loop place turn at loop.step
      (subst (λ n. StepsAt code n loop.step at.test) part.1 at.steps) behind fits)
  part_over levels fs s v loop place None turn at part behind fits =
      turn_over levels fs s v loop place None turn at part.0 part.1 behind fits

  -- the loop is over
  pub loop_over : (levels : ℕ) (fs : List Frame) (s : Status) (loop : LoopTree) (turn : ℕ) →
      LoopAt code loop turn → FramesAt code (turn + 2) fs → levels + brackets fs ≤ 255 →
      Here code last (spot_at (turn + 1) levels Finishes fs) s
      (left_of last levels Finishes fs s)
  loop_over levels fs s loop turn at behind fits =
      stands_here code last (turn + 1) levels Finishes fs (turn + 2) s (at.over, omega arith) behind
      fits

  -- its value is empty
  pub finishes_lead : (levels end : ℕ) (fs : List Frame) (s : Status) (place : ℕ) →
      At code place (i.Text []) → end ≡ place + 1 → FramesAt code end fs →
      levels + brackets fs ≤ 255 →
      Follows code last (machine (slice_get code place) (spot_at place levels Finishes fs) s)
      (left_of last levels Finishes fs s)
  finishes_lead levels end fs s place at is behind fits =
      by code last (i.Text []) (spot_at place levels Finishes fs) s _ at
      (stands code last (place + 1) levels (Has []) fs (place + 1) s refl
      (subst (λ n. FramesAt code n fs) is behind) fits)

  -- a loop goes on with its test
  repeats_so : (levels end : ℕ) (fs : List Frame) (s : Status) (loop : LoopTree)
      (place turn : ℕ) (at : LoopAt code loop turn) → LeadsTo code place at.test →
      end ≡ turn + 2 → FramesAt code end fs → levels + brackets fs ≤ 255 →
      Follows code last
      (machine (slice_get code place) (spot_at place levels (Repeats loop) fs) s)
      (left_of last levels (Repeats loop) fs s)
  repeats_so levels end fs s loop place turn at there is behind fits =
      silently code last _ (calls here)
      (evaluates_lead code last levels end fs s (Turning loop ∷ []) at.test loop.test turn at.formula
      (at, is) behind fits)
  repeats_so levels end fs s loop place turn at (jumps jump far) is behind fits =
      by code last (i.Jump at.test) (spot_at place levels (Repeats loop) fs) s _ jump
      (jump_leads code last at.test _ s _ far
      (stands code last at.test levels (Repeats loop) fs end s (turn, at, there, is) behind fits))

  pub repeats_lead : (levels end : ℕ) (fs : List Frame) (s : Status) (loop : LoopTree) (place : ℕ) →
      RepeatsAt code place loop end → FramesAt code end fs → levels + brackets fs ≤ 255 →
      Follows code last
      (machine (slice_get code place) (spot_at place levels (Repeats loop) fs) s)
      (left_of last levels (Repeats loop) fs s)
  repeats_lead levels end fs s loop place at behind fits =
      repeats_so levels end fs s loop place at.0 at.1 at.2 at.3 behind fits

  -- a loop with these trees begins with a jump to its test
  loop_begins : (levels : ℕ) (fs : List Frame) (s : Status) (place mid test turn : ℕ)
      (loop : LoopTree) → EntersAt code (place + 1) loop.body mid →
      StepsAt code mid loop.step test →
      EvaluatesAt code test loop.test turn → At code place (i.Jump test) → place + 1 ≤ test →
      At code turn (i.Turn (place + 1) mid) → At code (turn + 1) (i.Text []) →
      FramesAt code (turn + 2) fs → levels + brackets fs ≤ 255 →
      Comes code last (below_at code last place levels [] fs) s
      (and_then (again loop levels s) (onward (onward_of last levels fs)))
  loop_begins levels fs s place mid test turn loop enters step_at formula jump far begins over
      behind fits =
      let at : LoopAt code loop turn = record {
        body = place + 1;
        ends = mid;
        test = test;
        enters = enters;
        steps = step_at;
        formula = formula;
        turns = begins;
        over = over;
      } in
      stands code last place levels (Repeats loop) fs (turn + 2) s
      (turn, at, jumps jump far, refl) behind fits

  -- while begins: its test and its body are read
  pub while_begins : (levels : ℕ) (fs : List Frame) (s : Status) (place : ℕ) (test body : List ℕ)
      (end : ℕ) → TurnsAt code place test None body end → FramesAt code end fs →
      levels + brackets fs ≤ 255 →
      Comes code last (below_at code last place levels [] fs) s
      (and_then (whiles.while_loop levels (test ∷ body ∷ []) s)
      (onward (onward_of last levels fs)))
  while_begins levels fs s place test body end (turns {mid = mid} {again = at_test} {turn = turn}
      has jump body_at (no_step ended) test_at begins over) behind fits =
      let read = body_read code body_at in
      let tested = test_read code has test_at in
      sooner code last _ s
      (reads {text = FormulaText test} (Ok tested.formula) tested.is
      (reads {text = ScriptText body} read.tree read.is here))
      (loop_begins levels fs s place mid at_test turn
      (record { test = tested.formula; body = read.tree; step = None }) read.at (ended, refl) tested.at
      jump
      (omega (arith, body_grows code body_at)) begins over behind fits)
  while_begins levels fs s place test body end (no_turns lacks at) behind fits =
      sooner code last _ s (reads {text = FormulaText test} (Err lacks.0) lacks.1 here)
      (stands code last place levels (Lacks test lacks.0) fs end s (at, lacks.1, refl) behind fits)

  -- the turns of for begin: its test, the script after each turn and its body are read
  pub for_turns : (levels : ℕ) (fs : List Frame) (s : Status) (v : List ℕ) (place : ℕ)
      (test step body : List ℕ) (end : ℕ) → TurnsAt code place test (Some step) body end →
      FramesAt code end fs → levels + brackets fs ≤ 255 →
      Comes code last (below_at code last place levels [] fs) s
      (and_then (started levels test step body s v) (onward (onward_of last levels fs)))
  for_turns levels fs s v place test step body end (turns {mid = mid} {again = at_test}
      {turn = turn} has jump body_at (steps {mid = over_step} enters step_at ended) test_at begins
      over) behind fits =
      let read = body_read code body_at in
      let after = body_read code step_at in
      let tested = test_read code has test_at in
      sooner code last _ s
      (reads {text = FormulaText test} (Ok tested.formula) tested.is
      (reads {text = ScriptText step} after.tree after.is
      (reads {text = ScriptText body} read.tree read.is here)))
      (loop_begins levels fs s place mid at_test turn
      (record { test = tested.formula; body = read.tree; step = Some after.tree }) read.at
      (over_step, enters, after.at, ended, refl) tested.at jump
      (omega (arith, body_grows code body_at, body_grows code step_at)) begins over behind fits)
  for_turns levels fs s v place test step body end (no_turns lacks at) behind fits =
      sooner code last _ s (reads {text = FormulaText test} (Err lacks.0) lacks.1 here)
      (stands code last place levels (Lacks test lacks.0) fs end s (at, lacks.1, refl) behind fits)

  -- for begins: its start is read
  pub for_begins : (levels : ℕ) (fs : List Frame) (s : Status) (place mid : ℕ)
      (start test step body : List ℕ) (end : ℕ) → BodyAt code place start mid →
      At code mid i.Discard → TurnsAt code (mid + 1) test (Some step) body end →
      FramesAt code end fs → levels + brackets fs ≤ 255 →
      Comes code last (below_at code last place levels [] fs) s
      (and_then (fors.for_loop levels (start ∷ test ∷ step ∷ body ∷ []) s)
      (onward (onward_of last levels fs)))
  for_begins levels fs s place mid start test step body end start_at drops at behind fits =
      let read = body_read code start_at in
      sooner code last _ s
      (reads {text = ScriptText start} read.tree read.is
      (same_goes (inside_passes levels read.tree s (on_value (started levels test step body))
      (onward_of last levels fs))))
      (stands code last place levels (Enters read.tree) (For test step body ∷ fs) mid s read.at
      (drops, (end, at, behind)) fits)
