-- The value of an operand is on top: what it was evaluated for.
use Rattle.std.proofs.Common.{◌≡◌, ℕ, suc, ◌+◌, ◌-◌, ◌≤◌, List, [], ◌∷◌, ◌++◌, true, false, length, refl, sym, subst, arith, if◌then◌else◌}
use Rattle.std.specs.Prelude.{slice_get, reverse}
use Rattle.code.specs.Code.{At, LinksAt, no_more, both, and_also, or_else, ArgumentsAt, no_argument, argument}
use Rattle.nesting.specs.Conditional as definition
use Rattle.nesting.specs.Loop as loops
use Rattle.code.specs.declared.instruction.Instruction.{Instruction}
use Rattle.code.specs.declared.instruction.Instruction.TheVariants as i
use Rattle.state.specs.Evaluated.{arguments, evaluated, told}
use Rattle.meanings.specs.Meaning.{truth}
use Rattle.operators.specs.Binary.{binary}
use Rattle.operators.specs.Function as function
use Rattle.operators.specs.Truth.{truth_of}
use Rattle.operators.specs.Unary.{unary}
use Rattle.operators.specs.Value.{result}
use Rattle.plan.specs.Plan.{and_then, onward}
use Rattle.state.specs.Meant.{on_meaning}
use Rattle.state.specs.Prelude.{Dialogue, inside, Outcome, Status}
use Rattle.steps.specs.Follows.{Follows}
use Rattle.steps.specs.Layout.{FramesAt, OperandAt, formula_code}
use Rattle.steps.specs.Machine.{machine}
use Rattle.steps.specs.Operand.{Outer, Prefixed, Row, Right, Holds, Argument, Test, Chosen, Condition, Turning, Resulting, operand_on, waiting}
use Rattle.steps.specs.Places.{Has, Evaluates, Values, Chooses, Frame, Skip, beneath, brackets, handlers_beneath, left_of, marks_beneath, onward_of, spot_at}
use Rattle.steps.proofs.Leads.Formulas.{formula_leads}
use Rattle.steps.proofs.Leads.Bodies.{body_begins}
use Rattle.steps.proofs.Leads.Forwards.{operand_grows}
use Rattle.steps.proofs.Leads.Grows.{body_grows, formula_grows, links_grow}
use Rattle.steps.proofs.Leads.Loops.{loop_over, turn_begins}
use Rattle.steps.proofs.Leads.Meanings.{amid_below, below_at, call_leads, gives_leads, jump_leads, truth_leads}
use Rattle.steps.proofs.Leads.Operands.{last_first, words_left}
use Rattle.steps.proofs.Leads.Scripts.{has_leads}
use Rattle.steps.proofs.Leads.Standing.{by, comes_here, stands, tick_leads}
use Rattle.steps.specs.Formulas.{calling, deciding}
use Rattle.steps.specs.Loops.{turned}
use Rattle.steps.specs.Moves.{jumping}
use Rattle.steps.specs.Spot.{Went}
use Rattle.tclparse.specs.Formula.{Formulas, Links}
use Rattle.tclparse.specs.declared.operator.Function.{Function}

module _ {A X : Type 0} (code : List (Instruction A)) (last : Status → Outcome → Dialogue X) where
  -- the value of an operand leads on
  abbrev pub OperandLeads : ℕ → ℕ → List ℕ → List Outer → List Frame → Status → Type 0
  OperandLeads place levels v outer frames s =
      Follows code last
      (machine (slice_get code place) (spot_at place levels (Values v outer) frames) s)
      (left_of last levels (Values v outer) frames s)

  module _ (levels end : ℕ) (fs : List Frame) (s : Status) where
    -- the operators after it in a row
    links_lead : (outer : List Outer) (v : List ℕ) (place : ℕ) (ls : Links) (mid : ℕ) →
        (OperandAt code mid outer end → OperandLeads mid levels v outer fs s) →
        LinksAt code place ls mid → OperandAt code mid outer end → FramesAt code end fs →
        levels + brackets fs ≤ 255 → OperandLeads place levels v (Row ls ∷ outer) fs s
    links_lead outer v place ls mid over no_more at behind fits = over at
    links_lead outer v place ls mid over (both {mid = at_operator} {operator = op} {f = f} {ls =
        more} f_at operator rest) at behind fits =
        formula_leads code last levels end fs s (Right op v more ∷ outer) place f at_operator f_at
        (operator, (mid, rest, at)) behind fits
    links_lead outer v place ls mid over (and_also {mid = at_truth} {f = f} {ls = more} also f_at
        tells rest) at behind fits =
        by code last (i.AndAlso (at_truth + 1)) (spot_at place levels (Values v (Row ls ∷ outer))
        fs) s _ also
        (truth_leads code last (truth_of v) (below_at code last (place + 1) levels outer fs) levels fs s
        (amid_below code last (place + 1) levels outer fs end
        (omega (
          arith,
          formula_grows code f_at,
          links_grow code rest,
          operand_grows code mid outer end at,
        )) behind fits)
        (λ holds. deciding false holds (at_truth + 1) (below_at code last (place + 1) levels outer
        fs) s)
        (λ holds. if holds
        then evaluated levels f s (operand_on levels (Holds more ∷ outer))
        else operand_on levels (Row more ∷ outer) s (truth false))
        (elim [
          | true ↦ stands code last (place + 1) levels (Evaluates f (Holds more ∷ outer)) fs end s
              (at_truth, formula_code f_at, (tells, (mid, rest, at))) behind fits
          | false ↦ jump_leads code last (at_truth + 1) _ s _
              (omega (arith, formula_grows code f_at))
              (stands code last (at_truth + 1) levels (Values (truth false) (Row more ∷ outer)) fs
              end s
              (mid, rest, at) behind fits)
        ]))
    links_lead outer v place ls mid over (or_else {mid = at_truth} {f = f} {ls = more} also f_at
        tells rest) at behind fits =
        by code last (i.OrElse (at_truth + 1)) (spot_at place levels (Values v (Row ls ∷ outer)) fs)
        s _ also
        (truth_leads code last (truth_of v) (below_at code last (place + 1) levels outer fs) levels fs s
        (amid_below code last (place + 1) levels outer fs end
        (omega (
          arith,
          formula_grows code f_at,
          links_grow code rest,
          operand_grows code mid outer end at,
        )) behind fits)
        (λ holds. deciding true holds (at_truth + 1) (below_at code last (place + 1) levels outer
        fs) s)
        (λ holds. if holds
        then operand_on levels (Row more ∷ outer) s (truth true)
        else evaluated levels f s (operand_on levels (Holds more ∷ outer)))
        (elim [
          | true ↦ jump_leads code last (at_truth + 1) _ s _
              (omega (arith, formula_grows code f_at))
              (stands code last (at_truth + 1) levels (Values (truth true) (Row more ∷ outer)) fs
              end s
              (mid, rest, at) behind fits)
          | false ↦ stands code last (place + 1) levels (Evaluates f (Holds more ∷ outer)) fs end s
              (at_truth, formula_code f_at, (tells, (mid, rest, at))) behind fits
        ]))

    counted : (n m : ℕ) → n + 1 + suc m ≡ n + suc (suc m)
    counted n m = omega arith

    -- the last argument of a function
    last_argument : (outer : List Outer) (v : List ℕ) (g : Function) (before : List (List ℕ))
        (place : ℕ) → OperandAt code (place + 1) outer end → FramesAt code end fs →
        levels + brackets fs ≤ 255 →
        Follows code last
        (calling g (length (v ∷ (before ++ waiting outer (beneath fs))) - (0 + suc (length before)))
        (record {
          place = place + 1;
          operands = v ∷ (before ++ waiting outer (beneath fs));
          marks = marks_beneath fs;
          levels = levels;
          handlers = handlers_beneath levels fs;
        }) s)
        (and_then (on_meaning (function.call g (reverse (v ∷ before))) s
        (λ w. operand_on levels outer s w)) (onward (onward_of last levels fs)))
    last_argument outer v g before place at behind fits =
        call_leads code last g _ (v ∷ before) (place + 1) levels outer fs end s
        (words_left (0 + suc (length before)) (v ∷ before) (waiting outer (beneath fs)) (omega
        arith))
        at behind fits

    -- the arguments after it of a function
    arguments_lead : (outer : List Outer) (v : List ℕ) (g : Function) (before : List (List ℕ))
        (place : ℕ) (rest : Formulas) (count mid : ℕ) → ArgumentsAt code place rest count mid →
        At code mid (i.Call g (count + suc (length before))) → OperandAt code (mid + 1) outer end →
        FramesAt code end fs → levels + brackets fs ≤ 255 →
        OperandLeads place levels v (Argument g before rest ∷ outer) fs s
    arguments_lead outer v g before place rest count mid no_argument call at behind fits =
        subst (λ vs. Follows code last
        (machine (slice_get code place) (spot_at place levels (Values v (Argument g before rest ∷
        outer)) fs) s)
        (and_then (on_meaning (function.call g vs) s (λ w. operand_on levels outer s w))
        (onward (onward_of last levels fs))))
        (last_first v before)
        (by code last (i.Call g (0 + suc (length before))) (spot_at place levels (Values v (Argument
        g before rest ∷ outer)) fs) s _ call
        (last_argument outer v g before place at behind fits))
    arguments_lead outer v g before place rest count mid (argument {mid = at_more} {count =
        more_count} {f = f} {fs = more} f_at more_at) call at behind fits =
        subst (λ vs. Follows code last
        (machine (slice_get code place) (spot_at place levels (Values v (Argument g before rest ∷
        outer)) fs) s)
        (and_then (evaluated levels f s (λ t w. arguments levels more (vs ++ w ∷ []) t
        (λ u ws. on_meaning (function.call g ws) u (λ x. operand_on levels outer u x))))
        (onward (onward_of last levels fs))))
        (last_first v before)
        (formula_leads code last levels end fs s (Argument g (v ∷ before) more ∷ outer) place f
        at_more f_at (
          more_count,
          mid,
          more_at,
          subst (λ n. At code mid (i.Call g n)) (counted more_count (length before)) call,
          at,
        ) behind
        fits)

    -- whatever it was evaluated for
    pub operand_leads : (place : ℕ) (v : List ℕ) (outer : List Outer) →
        OperandAt code place outer end → FramesAt code end fs → levels + brackets fs ≤ 255 →
        OperandLeads place levels v outer fs s
    operand_leads place v [] at behind fits =
        has_leads code last place levels fs v s (subst (λ n. FramesAt code n fs) (sym at) behind)
        fits
    operand_leads place v (Prefixed op ∷ outer) at behind fits =
        by code last (i.Prefix op) (spot_at place levels (Values v (Prefixed op ∷ outer)) fs) s _
        at.0
        (gives_leads code last (unary op v) (place + 1) levels outer fs end s at.1 behind fits)
    operand_leads place v (Row links ∷ outer) at behind fits =
        links_lead outer v place links at.0 (λ more. operand_leads at.0 v outer more behind fits)
        at.1 at.2 behind fits
    operand_leads place v (Right op left links ∷ outer) at behind fits =
        by code last (i.Binary op) (spot_at place levels (Values v (Right op left links ∷ outer))
        fs) s _ at.0
        (gives_leads code last (binary op left v) (place + 1) levels (Row links ∷ outer) fs end s
        at.1 behind fits)
    operand_leads place v (Holds links ∷ outer) at behind fits =
        by code last i.Truth (spot_at place levels (Values v (Holds links ∷ outer)) fs) s _ at.0
        (gives_leads code last (told (truth_of v)) (place + 1) levels (Row links ∷ outer) fs end s
        at.1 behind fits)
    operand_leads place v (Argument g before rest ∷ outer) at behind fits =
        arguments_lead outer v g before place rest at.0 at.1 at.2 at.3 at.4 behind fits
    operand_leads place v (Test this other ∷ outer) at behind fits =
        by code last (i.Unless (at.0 + 1)) (spot_at place levels (Values v (Test this other ∷
        outer)) fs) s _ at.2
        (truth_leads code last (truth_of v) (below_at code last (place + 1) levels outer fs) levels fs s
        (amid_below code last (place + 1) levels outer fs end
        (omega (
          arith,
          formula_grows code at.3,
          formula_grows code at.5,
          operand_grows code at.1 outer end at.6,
        )) behind fits)
        (λ holds. if holds then Went (below_at code last (place + 1) levels outer fs) s
        else jumping (at.0 + 1) (below_at code last (place + 1) levels outer fs) s)
        (λ holds. if holds then evaluated levels this s (operand_on levels outer)
        else evaluated levels other s (operand_on levels outer))
        (elim [
          | true ↦ stands code last (place + 1) levels (Evaluates this (Chosen ∷ outer)) fs end s
              (at.0, formula_code at.3, (at.1, at.4, formula_grows code at.5, at.6)) behind fits
          | false ↦ jump_leads code last (at.0 + 1) _ s _
              (omega (arith, formula_grows code at.3))
              (stands code last (at.0 + 1) levels (Evaluates other outer) fs end s
              (at.1, formula_code at.5, at.6) behind fits)
        ]))
    operand_leads place v (Chosen ∷ outer) at behind fits =
        by code last (i.Jump at.0) (spot_at place levels (Values v (Chosen ∷ outer)) fs) s _ at.1
        (jump_leads code last at.0 _ s _ at.2
        (stands code last at.0 levels (Values v outer) fs end s at.3 behind fits))
    operand_leads place v (Condition body more otherwise ∷ outer) at behind fits =
        by code last (i.Unless (at.0 + 1)) (spot_at place levels (Values v (Condition body more
        otherwise ∷ outer)) fs) s _ at.1
        (truth_leads code last (truth_of v) (below_at code last (place + 1) levels [] fs) levels fs s
        (amid_below code last (place + 1) levels [] fs end
        (omega (arith, body_grows code at.2, at.4)) behind fits)
        (λ holds. if holds then Went (below_at code last (place + 1) levels [] fs) s
        else jumping (at.0 + 1) (below_at code last (place + 1) levels [] fs) s)
        (λ holds. definition.chosen levels body more otherwise s holds)
        (elim [
          | true ↦ body_begins code last (place + 1) levels body (Skip ∷ fs) at.0 s at.2
              (end, at.3, at.4, behind) fits
          | false ↦ jump_leads code last (at.0 + 1) _ s _ (omega (arith, body_grows code at.2))
              (stands code last (at.0 + 1) levels (Chooses more otherwise) fs end s at.5 behind
              fits)
        ]))
    operand_leads place v (Turning loop ∷ outer) at behind fits =
        let loop_at = at.0 in
        let over : FramesAt code (place + 2) fs = subst (λ n. FramesAt code n fs) at.1 behind in
        by code last (i.Turn loop_at.body loop_at.ends) (spot_at place levels (Values v (Turning
        loop ∷ outer)) fs) s _ loop_at.turns
        (truth_leads code last (truth_of v) (below_at code last (place + 1) levels [] fs) levels fs s
        (amid_below code last (place + 1) levels [] fs end (omega (arith, at.1)) behind fits)
        (λ holds. turned loop_at.body loop_at.ends holds
        (below_at code last (place + 1) levels [] fs) s)
        (λ holds. loops.turned loop levels s holds)
        (elim [
          | true ↦ tick_leads code last s.left levels fs s _
              (λ t. inside levels loop.body t (loops.behind_body loop levels))
              (λ t. turn_begins code last levels fs t loop place loop_at over fits)
          | false ↦ comes_here code last _ s
              (loop_over code last levels fs s loop place loop_at over fits)
        ]))
    operand_leads place v (Resulting ∷ outer) at behind fits =
        by code last i.Result (spot_at place levels (Values v (Resulting ∷ outer)) fs) s _ at.0
        (stands code last (place + 1) levels (Has (result v)) fs (place + 1) s refl
        (subst (λ n. FramesAt code n fs) at.1 behind) fits)
