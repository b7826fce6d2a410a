-- What holds of the commands that evaluate formulas, and of loops, where it holds of all that may
-- follow them.
use Rattle.std.proofs.Common.{ℕ, List, [], ◌∷◌, Bool, true, false, Option, Some, None, Result, Ok, Err, if◌then◌else◌, refl}
use Rattle.std.specs.Prelude.{codes}
use Rattle.acts.specs.Flaw as flaw
use Rattle.code.specs.Branches.{Branch, Branches, branches}
use Rattle.nesting.specs.Conditional.{chooses, conditional, last, on_branches, passes}
use Rattle.nesting.specs.Expr.{expr}
use Rattle.nesting.specs.ForLoop.{for_loop, started}
use Rattle.nesting.specs.Formulas.{flaw_of_formula, on_formula, with_formula}
use Rattle.nesting.specs.Loop.{again, behind_body, on_step, steps, turned, turns}
use Rattle.nesting.specs.WhileLoop.{while_loop}
use Rattle.nesting.proofs.Formulas.{tested_closed, valued_closed}
use Rattle.pure.specs.Concat.{concatenated}
use Rattle.state.proofs.Closed.{Closed, Loops, Ticks, inside_closed, raises_closed, tick_closed, turn_closed, value_closed, within_closed}
use Rattle.state.specs.Prelude.{Course, within, Outcome, Gives, Leaves, Stops, Error, Return, Break, Continue, Again, AgainRunning, LoopTree, ScriptText, ScriptTree, Status}
use Rattle.state.specs.Piece.{FormulaText}
use Rattle.tclparse.specs.Formula.{Formula}
use Rattle.tclparse.specs.FormulaFault.{FormulaFault}

module _ (P : Status → Course → Type 0) (closed : Closed P) where
  formula_closed : (s : Status) (next : Formula → Course) → ((f : Formula) → P s (next f)) →
      (r : Result Formula FormulaFault) → P s (on_formula s next r)
  formula_closed s next each (Ok formula) = each formula
  formula_closed s next each (Err why) = raises_closed P closed (flaw_of_formula why) s

  -- a text that is read as a formula
  pub with_formula_closed : (text : List ℕ) (s : Status) (next : Formula → Course) →
      ((f : Formula) → P s (next f)) → P s (with_formula text s next)
  with_formula_closed text s next each =
      closed.reading (FormulaText text) s (on_formula s next) (formula_closed s next each)

  -- expr
  pub expr_closed : (levels : ℕ) (args : List (List ℕ)) (s : Status) → P s (expr levels args s)
  expr_closed levels [] s = raises_closed P closed (flaw.WrongArgs (codes "expr")) s
  expr_closed levels (first ∷ more) s =
      with_formula_closed (concatenated (first ∷ more)) s _ (λ f.
      valued_closed P closed levels f s _ (λ u value. closed.over u (Gives value)))

  last_closed : (levels : ℕ) (otherwise : Option (List ℕ)) (s : Status) → P s (last levels otherwise s)
  last_closed levels None s = closed.over s (Gives [])
  last_closed levels (Some body) s =
      within_closed P closed levels body s passes (λ u stop. (u, refl)) (λ u o. closed.over u o)

  body_closed : (holds : Bool) (levels : ℕ) (body : List ℕ) (s : Status) (other : Course) →
      P s other → P s (if holds then within levels body s passes else other)
  body_closed true levels body s other so =
      within_closed P closed levels body s passes (λ u stop. (u, refl)) (λ u o. closed.over u o)
  body_closed false levels body s other so = so

  chooses_closed : (levels : ℕ) (tests : List Branch) (otherwise : Option (List ℕ)) (s : Status) →
      P s (chooses levels tests otherwise s)
  chooses_closed levels [] otherwise s = last_closed levels otherwise s
  chooses_closed levels (branch ∷ more) otherwise s =
      with_formula_closed branch.test s _ (λ f.
      tested_closed P closed levels f s _ (λ t holds.
      body_closed holds levels branch.body t _ (chooses_closed levels more otherwise t)))

  branches_closed : (levels : ℕ) (found : Option Branches) (s : Status) →
      P s (on_branches levels found s)
  branches_closed levels None s = raises_closed P closed (flaw.WrongArgs (codes "if")) s
  branches_closed levels (Some found) s = chooses_closed levels found.tests found.otherwise s

  -- if
  pub conditional_closed : (levels : ℕ) (args : List (List ℕ)) (s : Status) →
      P s (conditional levels args s)
  conditional_closed levels args s = branches_closed levels (branches args) s

  module _ (loops : Loops P) where
    -- while
    pub while_closed : (levels : ℕ) (args : List (List ℕ)) (s : Status) →
        P s (while_loop levels args s)
    while_closed levels [] s = raises_closed P closed (flaw.WrongArgs (codes "while")) s
    while_closed levels (test ∷ []) s = raises_closed P closed (flaw.WrongArgs (codes "while")) s
    while_closed levels (test ∷ body ∷ []) s =
        with_formula_closed test s _ (λ f.
        closed.reading (ScriptText body) s _ (λ tree. loops _ levels s))
    while_closed levels (test ∷ body ∷ other ∷ more) s =
        raises_closed P closed (flaw.WrongArgs (codes "while")) s

    started_closed : (levels : ℕ) (test step body : List ℕ) (s : Status) (value : List ℕ) →
        P s (started levels test step body s value)
    started_closed levels test step body s value =
        with_formula_closed test s _ (λ f.
        closed.reading (ScriptText step) s _ (λ behind.
        closed.reading (ScriptText body) s _ (λ tree. loops _ levels s)))

    -- for
    pub for_closed : (levels : ℕ) (args : List (List ℕ)) (s : Status) →
        P s (for_loop levels args s)
    for_closed levels [] s = raises_closed P closed (flaw.WrongArgs (codes "for")) s
    for_closed levels (start ∷ []) s = raises_closed P closed (flaw.WrongArgs (codes "for")) s
    for_closed levels (start ∷ test ∷ []) s =
        raises_closed P closed (flaw.WrongArgs (codes "for")) s
    for_closed levels (start ∷ test ∷ step ∷ []) s =
        raises_closed P closed (flaw.WrongArgs (codes "for")) s
    for_closed levels (start ∷ test ∷ step ∷ body ∷ []) s =
        within_closed P closed levels start s _ (λ u stop. (u, refl))
        (value_closed P closed.over (started levels test step body)
        (started_closed levels test step body))
    for_closed levels (start ∷ test ∷ step ∷ body ∷ other ∷ more) s =
        raises_closed P closed (flaw.WrongArgs (codes "for")) s

-- a loop from a turn on, where P holds of what comes before the turn's tick and Q of what follows it
module _ (P Q : Status → Course → Type 0) (before : Closed P) (ticks : Ticks P Q)
    (behind : Closed Q) (loops : Loops Q) (loop : LoopTree) (levels : ℕ) where
  step_closed : (s : Status) (o : Outcome) → Q s (on_step (again loop levels) s o)
  step_closed s (Gives value) = loops loop levels s
  step_closed s (Leaves Break value) = behind.over s (Gives [])
  step_closed s (Leaves Error value) = behind.over s (Leaves Error value)
  step_closed s (Leaves Return value) = behind.over s (Leaves Return value)
  step_closed s (Leaves Continue value) = behind.over s (Leaves Continue value)
  step_closed s (Leaves Again value) = behind.over s (Leaves Again value)
  step_closed s (Leaves AgainRunning value) = behind.over s (Leaves AgainRunning value)
  step_closed s (Stops stop) = behind.over s (Stops stop)

  steps_closed : (step : Option ScriptTree) (s : Status) → Q s (steps step levels (again loop levels) s)
  steps_closed None s = loops loop levels s
  steps_closed (Some step) s = inside_closed Q behind levels step s _ (λ u stop. (u, refl)) step_closed

  turned_closed : (s : Status) (holds : Bool) → P s (turned loop levels s holds)
  turned_closed s true =
      tick_closed P Q before.over ticks s _ (λ t.
      inside_closed Q behind levels loop.body t (behind_body loop levels) (λ u stop. (u, refl))
      (turn_closed Q behind (steps loop.step levels (again loop levels)) (steps_closed loop.step)))
  turned_closed s false = before.over s (Gives [])

  pub turns_closed : (s : Status) → P s (turns loop levels s)
  turns_closed s = tested_closed P before levels loop.test s (turned loop levels) turned_closed
