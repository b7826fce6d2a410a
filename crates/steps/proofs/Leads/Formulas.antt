-- A formula that is evaluated: its first instruction.
use Rattle.std.proofs.Common.{◌≡◌, ◌∙◌, ℕ, ◌+◌, ◌≤◌, List, [], ◌∷◌, Result, Ok, Err, refl, sym, ap, subst, arith}
use Rattle.std.specs.Prelude.{slice_get}
use Rattle.code.specs.Code.{At, ExpressionAt, by_formula, from_text, FormulaAt, number, parts, called, prefixed, in_row, chosen, no_argument, argument}
use Rattle.code.specs.declared.instruction.Instruction.{Instruction}
use Rattle.code.specs.declared.instruction.Instruction.TheVariants as i
use Rattle.nesting.proofs.Asked.{evaluated_then}
use Rattle.nesting.specs.Formulas.{on_formula}
use Rattle.operators.specs.Value.{written}
use Rattle.plan.proofs.Joined.{associates}
use Rattle.plan.specs.Plan.{and_then, onward}
use Rattle.runs.proofs.Trees.{one_tree}
use Rattle.state.specs.Evaluated.{evaluated}
use Rattle.state.specs.Piece.{FormulaText, IsTree}
use Rattle.state.specs.Prelude.{Dialogue, Gives, gives, Leaves, on_value, Outcome, Status, Stops}
use Rattle.steps.specs.Follows.{Follows, Resumes, Waits, value_by}
use Rattle.steps.specs.Goes.{here, reads}
use Rattle.steps.specs.Handling.{resumed}
use Rattle.steps.specs.Layout.{EvaluatesAt, FramesAt, OperandAt, formula_code, formula_text}
use Rattle.steps.specs.Machine.{machine}
use Rattle.steps.specs.Operand.{Outer, Prefixed, Row, Argument, Test, operand_on}
use Rattle.steps.specs.Places.{Evaluates, Expresses, Lacks, Values, Frame, brackets, left_of, onward_of, spot_at}
use Rattle.steps.specs.Word.{Operand}
use Rattle.steps.proofs.Leads.Forwards.{operand_grows}
use Rattle.steps.proofs.Leads.Meanings.{amid_below, below_at, call_leads, gives_leads}
use Rattle.steps.proofs.Leads.Parts.{start_leads}
use Rattle.steps.proofs.Leads.Resumed.{leaves_so}
use Rattle.steps.proofs.Leads.Silent.{same_goes}
use Rattle.steps.proofs.Leads.Standing.{by, silently, stands_here, stops_pass, waits_silently}
use Rattle.tclparse.specs.Formula.{Formula, numeral}
use Rattle.tclparse.specs.FormulaFault.{FormulaFault}

module _ {A X : Type 0} (code : List (Instruction A)) (last : Status → Outcome → Dialogue X) where
  -- a formula leads on
  abbrev pub FormulaLeads : ℕ → ℕ → Formula → List Outer → List Frame → Status → Type 0
  FormulaLeads place levels f outer frames s =
      Follows code last
      (machine (slice_get code place) (spot_at place levels (Evaluates f outer) frames) s)
      (left_of last levels (Evaluates f outer) frames s)

  pub formula_leads : (levels end : ℕ) (fs : List Frame) (s : Status) (outer : List Outer)
      (place : ℕ) (f : Formula) (mid : ℕ) → FormulaAt code place f mid →
      OperandAt code mid outer end → FramesAt code end fs → levels + brackets fs ≤ 255 →
      FormulaLeads place levels f outer fs s
  formula_leads levels end fs s outer place f mid (number {digits = digits} at) over behind fits =
      by code last (i.Numeral digits) (spot_at place levels (Evaluates (numeral digits) outer) fs) s
      _ at
      (gives_leads code last (written digits) (place + 1) levels outer fs end s over behind fits)
  formula_leads levels end fs s outer place f mid (parts {ps = ps} at) over behind fits =
      start_leads code last levels end [] (Operand outer) fs s place ps mid at
      (record { stop = mid; around = refl; word_at = over }) behind fits
  formula_leads levels end fs s outer place f mid (called {function = g} no_argument at) over behind
      fits =
      by code last (i.Call g 0) (spot_at place levels (Evaluates f outer) fs) s _ at
      (call_leads code last g _ [] (place + 1) levels outer fs end s (omega arith) over behind fits)
  formula_leads levels end fs s outer place f mid (called {mid = at_call} {function = g} (argument
      {mid = at_rest} {count = count} {f = first} {fs = more} first_at more_at) at) over behind
      fits =
      formula_leads levels end fs s (Argument g [] more ∷ outer) place first at_rest first_at
      (count, at_call, more_at, at, over) behind fits
  formula_leads levels end fs s outer place f mid (prefixed {mid = at_operator} {operator = op} {f =
      operand} operand_at at) over behind fits =
      formula_leads levels end fs s (Prefixed op ∷ outer) place operand at_operator operand_at
      (at, over) behind fits
  formula_leads levels end fs s outer place f mid (in_row {mid = at_links} {f = first} {ls = links}
      first_at links_at) over behind fits =
      formula_leads levels end fs s (Row links ∷ outer) place first at_links first_at
      (mid, links_at, over) behind fits
  formula_leads levels end fs s outer place f mid (chosen {unless = at_unless} {jump = at_jump}
      {test = test} {yes = this} {no = other} test_at unless yes_at jump no_at) over behind fits =
      formula_leads levels end fs s (Test this other ∷ outer) place test at_unless test_at
      (at_jump, mid, unless, yes_at, jump, no_at, over) behind fits

  -- what is done with the outcome of a formula that is evaluated for this
  abbrev value_next : ℕ → List Outer → List Frame → Status → Outcome → Dialogue X
  value_next levels outer fs t outcome =
      and_then (on_value (operand_on levels outer) t outcome) (onward (onward_of last levels fs))

  -- where that outcome leads
  value_resumes : (levels end : ℕ) (fs : List Frame) (outer : List Outer) (place : ℕ) →
      OperandAt code place outer end → FramesAt code end fs → levels + brackets fs ≤ 255 →
      (t : Status) (outcome : Outcome) →
      Resumes code last (resumed (below_at code last place levels outer fs) outcome t)
      (value_next levels outer fs t outcome)
  value_resumes levels end fs outer place over behind fits t (Gives value) =
      stands_here code last place levels (Values value outer) fs end t over behind fits
  value_resumes levels end fs outer place over behind fits t (Leaves c value) =
      leaves_so code last c value (below_at code last place levels outer fs) levels fs t
      (amid_below code last place levels outer fs end (operand_grows code place outer end over) behind
      fits)
  value_resumes levels end fs outer place over behind fits t (Stops stop) =
      stops_pass code last levels fs t stop

  -- a text that is evaluated for this is evaluated first, and then comes this
  value_first : (levels : ℕ) (fs : List Frame) (s : Status) (outer : List Outer)
      (tree : Result Formula FormulaFault) →
      and_then (on_formula s (λ f. evaluated levels f s (operand_on levels outer)) tree)
      (onward (onward_of last levels fs))
      ≡ and_then (value_by tree levels s) (onward (value_next levels outer fs))
  value_first levels fs s outer (Ok f) =
      ap (λ c. and_then c (onward (onward_of last levels fs)))
      (evaluated_then (operand_on levels outer) levels f s)
      ∙ associates (evaluated levels f s (λ t value. gives value t))
      (onward (on_value (operand_on levels outer))) (onward (onward_of last levels fs))
  value_first levels fs s outer (Err why) = refl

  -- so it waits for that outcome
  value_waits : (levels end : ℕ) (fs : List Frame) (s : Status) (outer : List Outer) (place : ℕ)
      (tree : Result Formula FormulaFault) → OperandAt code place outer end →
      FramesAt code end fs → levels + brackets fs ≤ 255 →
      Waits code last (value_by tree levels s) (below_at code last place levels outer fs)
      (and_then (on_formula s (λ f. evaluated levels f s (operand_on levels outer)) tree)
      (onward (onward_of last levels fs)))
  value_waits levels end fs s outer place tree over behind fits = record {
    next = value_next levels outer fs;
    goes = same_goes (value_first levels fs s outer tree);
    resumes = value_resumes levels end fs outer place over behind fits;
  }

  -- a formula leads on, or its text does
  pub evaluates_lead : (levels end : ℕ) (fs : List Frame) (s : Status) (outer : List Outer)
      (place : ℕ) (f : Formula) (mid : ℕ) → EvaluatesAt code place f mid →
      OperandAt code mid outer end → FramesAt code end fs → levels + brackets fs ≤ 255 →
      FormulaLeads place levels f outer fs s
  evaluates_lead levels end fs s outer place f mid (formula_code at) over behind fits =
      formula_leads levels end fs s outer place f mid at over behind fits
  evaluates_lead levels end fs s outer place f mid (formula_text {text = text} at is) over behind
      fits =
      by code last (i.Evaluate text) (spot_at place levels (Evaluates f outer) fs) s _ at
      (λ tree also. subst (λ it. Waits code last (value_by it levels s)
      (below_at code last (place + 1) levels outer fs) (left_of last levels (Evaluates f outer) fs s))
      (one_tree (FormulaText text) (Ok f) tree is also)
      (value_waits levels end fs s outer (place + 1) (Ok f) over behind fits))

  -- a text leads on that is read as a formula, or is left to be read
  pub expression_leads : (levels end : ℕ) (fs : List Frame) (s : Status) (outer : List Outer)
      (place : ℕ) (text : List ℕ) (mid : ℕ) → ExpressionAt code place text mid →
      OperandAt code mid outer end → FramesAt code end fs → levels + brackets fs ≤ 255 →
      Follows code last
      (machine (slice_get code place) (spot_at place levels (Expresses text outer) fs) s)
      (left_of last levels (Expresses text outer) fs s)
  expression_leads levels end fs s outer place text mid (by_formula {f = f} is at) over behind fits =
      silently code last _ (reads {text = FormulaText text} (Ok f) is here)
      (formula_leads levels end fs s outer place f mid at over behind fits)
  expression_leads levels end fs s outer place text mid (from_text at) over behind fits =
      by code last (i.Evaluate text) (spot_at place levels (Expresses text outer) fs) s _ at
      (λ tree is. waits_silently code last (value_by tree levels s)
      (below_at code last (place + 1) levels outer fs) (reads {text = FormulaText text} tree is here)
      (value_waits levels end fs s outer (place + 1) tree over behind fits))

  -- a text that is no formula leads to its error
  pub lacks_lead : (levels end : ℕ) (fs : List Frame) (s : Status) (place : ℕ) (text : List ℕ)
      (why : FormulaFault) → At code place (i.Evaluate text) → IsTree (FormulaText text) (Err why) →
      end ≡ place + 1 → FramesAt code end fs → levels + brackets fs ≤ 255 →
      Follows code last
      (machine (slice_get code place) (spot_at place levels (Lacks text why) fs) s)
      (left_of last levels (Lacks text why) fs s)
  lacks_lead levels end fs s place text why at is ends behind fits =
      by code last (i.Evaluate text) (spot_at place levels (Lacks text why) fs) s _ at
      (λ tree also. subst (λ it. Waits code last (value_by it levels s)
      (below_at code last (place + 1) levels [] fs) (left_of last levels (Lacks text why) fs s))
      (one_tree (FormulaText text) (Err why) tree is also)
      (value_waits levels end fs s [] (place + 1) (Err why) (sym ends) behind fits))
