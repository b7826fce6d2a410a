-- Code ends at its beginning, or after it.
use Rattle.std.proofs.Common.{ℕ, ◌≤◌, List, Bool, Option, arith}
use Rattle.code.specs.Branches.{Branch}
use Rattle.code.specs.Code.{JoinsAt, first, joined, PartsAt, over, empty, text, value, item, bracket, WordsAt, begins, begins_counted, says, one, counts, spread, CommandAt, by_words, own, foreach_loop, direct, CommandsAt, done, next, FaultAt, none, fault, OwnAt, conditional, while_loop, for_loop, evaluated, valued, argued, TurnsAt, turns, no_turns, StepAt, no_step, steps, AssignsAt, all_set, sets, NextAt, next_turn, ForeachAt, with_names, DealAt, deals, switched, SwitchAt, with_arms, RestAt, no_match, some_arms, ArmsAt, otherwise, shares, takes, BranchesAt, branch, no_else, at_last, BodyAt, deeper, by_text, ExpressionAt, by_formula, from_text, FormulaAt, number, parts, called, prefixed, in_row, chosen, LinksAt, no_more, both, and_also, or_else, ArgumentsAt, no_argument, argument, caught, TakenAt, dropped, taken}
use Rattle.code.specs.Doing.{Doing, If, While, For, Catch, DoneAt}
use Rattle.code.specs.declared.instruction.Instruction.{Instruction}
use Rattle.code.specs.declared.options.Options.{Options}
use Rattle.tclparse.specs.Fault.{Fault}
use Rattle.tclparse.specs.Formula.{Formula, Links, Formulas}
use Rattle.tclparse.specs.Tree.{Parts, Words, Commands}

module _ {A : Type 0} (code : List (Instruction A)) where
  pub joins_grow : {more : Bool} {place end : ℕ} → JoinsAt code more place end → place ≤ end
  joins_grow first = omega arith
  joins_grow (joined at) = omega arith

  pub fault_grows : {f : Option Fault} {place end : ℕ} → FaultAt code f place end → place ≤ end
  fault_grows none = omega arith
  fault_grows (fault at) = omega arith

  pub assigns_grow : {place : ℕ} {names : List (List ℕ)} {end : ℕ} →
      AssignsAt code place names end → place ≤ end
  assigns_grow all_set = omega arith
  assigns_grow (sets at rest) = omega (arith, assigns_grow rest)

  pub taken_grows : {place : ℕ} {variable : Option (List ℕ)} {end : ℕ} →
      TakenAt code place variable end → place ≤ end
  taken_grows (dropped at) = omega arith
  taken_grows (taken at) = omega arith

  pub next_grows : {place : ℕ} {names : List (List ℕ)} {body ends end : ℕ} →
      NextAt code place names body ends end → place ≤ end
  next_grows (next_turn looks names back drops) = omega (arith, assigns_grow names)

  mutual
    pub parts_grow : {more : Bool} {place : ℕ} {ps : Parts} {end : ℕ} → PartsAt code more place ps end →
        place ≤ end
    parts_grow over = omega arith
    parts_grow (empty at) = omega arith
    parts_grow (text bytes at joins rest) = omega (arith, joins_grow joins, parts_grow rest)
    parts_grow (value at joins rest) = omega (arith, joins_grow joins, parts_grow rest)
    parts_grow (item inside at joins rest) =
        omega (arith, parts_grow inside, joins_grow joins, parts_grow rest)
    parts_grow (bracket enter commands leave joins rest) =
        omega (arith, commands_grow commands, joins_grow joins, parts_grow rest)

    pub words_grow : {braced counted : Bool} {count place : ℕ} {ws : Words} {end : ℕ} →
        WordsAt code braced counted count place ws end → place ≤ end
    words_grow (begins at) = omega arith
    words_grow (begins_counted at) = omega arith
    words_grow (says at) = omega arith
    words_grow (one ps rest) = omega (arith, parts_grow ps, words_grow rest)
    words_grow (counts at rest) = omega (arith, words_grow rest)
    words_grow (spread ps at rest) = omega (arith, parts_grow ps, words_grow rest)

    command_grows : {place : ℕ} {ws : Words} {end : ℕ} → CommandAt code place ws end → place ≤ end
    command_grows (by_words ws) = words_grow ws
    command_grows (own hides ws jump it) = omega (arith, words_grow ws, own_grows it)
    command_grows (foreach_loop list it) = omega (arith, parts_grow list, foreach_grows it)
    command_grows (switched string it) = omega (arith, parts_grow string, switch_grows it)
    command_grows (direct is ps at) = omega (arith, parts_grow ps)

    pub commands_grow : {place : ℕ} {cs : Commands} {end : ℕ} → CommandsAt code place cs end →
        place ≤ end
    commands_grow done = omega arith
    commands_grow (next at ws rest) = omega (arith, command_grows ws, commands_grow rest)

    pub own_grows : {name : List ℕ} {place : ℕ} {args : List (List ℕ)} {end : ℕ} →
        OwnAt code name place args end → place ≤ end
    own_grows (conditional is it) = branches_grow it
    own_grows (while_loop it) = turns_grow it
    own_grows (for_loop start drops it) = omega (arith, body_grows start, turns_grow it)
    own_grows (evaluated body) = body_grows body
    own_grows (valued it gives) = omega (arith, expression_grows it)
    own_grows (argued branching braced is name ws) = omega (arith, words_grow ws)
    own_grows (caught words starts body ends stands) =
        omega (arith, body_grows body, taken_grows stands)

    pub turns_grow : {place : ℕ} {test : List ℕ} {step : Option (List ℕ)} {body : List ℕ} {end : ℕ} →
        TurnsAt code place test step body end → place ≤ end
    turns_grow (turns is jump body after test turn last) =
        omega (arith, body_grows body, step_grows after, expression_grows test)
    turns_grow (no_turns lacks at) = omega arith

    step_grows : {place : ℕ} {step : Option (List ℕ)} {end : ℕ} → StepAt code place step end →
        place ≤ end
    step_grows (no_step ends) = omega arith
    step_grows (steps at body ends) = omega (arith, body_grows body)

    pub foreach_grows : {place : ℕ} {variables body : List ℕ} {end : ℕ} →
        ForeachAt code place variables body end → place ≤ end
    foreach_grows (with_names are at it) = omega (arith, deal_grows it)

    pub deal_grows : {place : ℕ} {names : List (List ℕ)} {body : List ℕ} {end : ℕ} →
        DealAt code place names body end → place ≤ end
    deal_grows (deals at body ended turn) = omega (arith, body_grows body, next_grows turn)

    pub switch_grows : {place : ℕ} {options : Options} {after : List (List ℕ)} {end : ℕ} →
        SwitchAt code place options after end → place ≤ end
    switch_grows (with_arms held holds are at rest) = omega (arith, rest_grows rest)

    pub rest_grows : {globs : Bool} {place : ℕ} {arms : List (List ℕ)} {end : ℕ} →
        RestAt code globs place arms end → place ≤ end
    rest_grows (no_match drops empty_at) = omega arith
    rest_grows (some_arms arms) = arms_grow arms

    arms_grow : {globs : Bool} {place taken : ℕ} {arms : List (List ℕ)} {end : ℕ} →
        ArmsAt code globs place taken arms end → place ≤ end
    arms_grow (otherwise drops unshared body) = omega (arith, body_grows body)
    arms_grow (shares other test rest) = omega (arith, arms_grow rest)
    arms_grow (takes other unshared test drops body jump rest) =
        omega (arith, body_grows body, rest_grows rest)

    pub branches_grow : {place : ℕ} {tests : List Branch} {last : Option (List ℕ)} {end : ℕ} →
        BranchesAt code place tests last end → place ≤ end
    branches_grow (no_else at) = omega arith
    branches_grow (at_last body) = body_grows body
    branches_grow (branch test unless body jump rest) =
        omega (arith, expression_grows test, body_grows body, branches_grow rest)

    pub body_grows : {place : ℕ} {body : List ℕ} {end : ℕ} → BodyAt code place body end →
        place ≤ end
    body_grows (deeper is enter commands ends leave) =
        omega (arith, commands_grow commands, fault_grows ends)
    body_grows (by_text at) = omega arith

    pub expression_grows : {place : ℕ} {text : List ℕ} {end : ℕ} → ExpressionAt code place text end →
        place ≤ end
    expression_grows (by_formula is f) = formula_grows f
    expression_grows (from_text at) = omega arith

    pub formula_grows : {place : ℕ} {f : Formula} {end : ℕ} → FormulaAt code place f end →
        place ≤ end
    formula_grows (number at) = omega arith
    formula_grows (parts ps) = parts_grow ps
    formula_grows (called fs at) = omega (arith, arguments_grow fs)
    formula_grows (prefixed f at) = omega (arith, formula_grows f)
    formula_grows (in_row f ls) = omega (arith, formula_grows f, links_grow ls)
    formula_grows (chosen test unless this jump other) =
        omega (arith, formula_grows test, formula_grows this, formula_grows other)

    pub links_grow : {place : ℕ} {ls : Links} {end : ℕ} → LinksAt code place ls end → place ≤ end
    links_grow no_more = omega arith
    links_grow (both f at ls) = omega (arith, formula_grows f, links_grow ls)
    links_grow (and_also at f truth ls) = omega (arith, formula_grows f, links_grow ls)
    links_grow (or_else at f truth ls) = omega (arith, formula_grows f, links_grow ls)

    pub arguments_grow : {place : ℕ} {fs : Formulas} {count end : ℕ} → ArgumentsAt code place fs count
        end →
        place ≤ end
    arguments_grow no_argument = omega arith
    arguments_grow (argument f fs) = omega (arith, formula_grows f, arguments_grow fs)

  -- the body of the first pattern of a switch stands at its beginning, or after it
  pub taken_ahead : {globs : Bool} {place taken : ℕ} {arms : List (List ℕ)} {end : ℕ} →
      ArmsAt code globs place taken arms end → place ≤ taken
  taken_ahead (otherwise drops unshared body) = omega arith
  taken_ahead (shares other test rest) = omega (arith, taken_ahead rest)
  taken_ahead (takes other unshared test drops body jump rest) = omega arith

  -- what a command does
  pub done_grows : (doing : Doing) (place end : ℕ) → DoneAt code doing place end → place ≤ end
  done_grows (If found) place end at = branches_grow at
  done_grows (While test body) place end at = turns_grow at
  done_grows (For start test step body) place end at =
      omega (arith, body_grows at.1, turns_grow at.3)
  done_grows (Catch body variable) place end at = omega (arith, body_grows at.2, taken_grows at.4)
