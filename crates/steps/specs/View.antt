-- What the values of the code stand for.
use Rattle.std.specs.Prelude.{ℕ, ◌-◌, Bool, true, false, List, [], ◌∷◌, Option, Some, None, drop, map, reverse, take}
use Rattle.state.specs.Prelude.{Code, Leaves, Scopes, Status, outcome_of}
use Rattle.steps.specs.Handling.{led}
use Rattle.steps.specs.declared.handler.Handler as opened
use Rattle.steps.specs.declared.handling.Taker.{Taker}
use Rattle.steps.specs.declared.progress.Progress.{Progress}
use Rattle.steps.specs.declared.progress.Progress.TheVariants as went
use Rattle.steps.specs.declared.spot.Spot as coded
use Rattle.steps.specs.Spot.{Handler, Spot, Did, Went, Begins, Says, Runs, Evaluates, Over, Stuck}
use Rattle.tclstate.specs.Procs.{Procs}

-- what is open that an outcome may lead out of
abbrev pub handler_of : opened.Handler → Handler
handler_of handler = record {
  covers = handler.covers;
  over = handler.over;
  operands = handler.operands;
  marks = handler.marks;
  levels = handler.levels;
}

-- where the run of a code stands
abbrev pub spot_of : {A : Type 0} → coded.Spot A → Spot
spot_of spot = record {
  place = spot.place;
  operands = reverse spot.operands.items;
  marks = reverse spot.marks.items;
  levels = spot.levels;
  handlers = reverse (map handler_of spot.handlers.items);
}

-- the words by which something begins: all operands but those below them
abbrev pub words_of : {A : Type 0} → coded.Spot A → List (List ℕ)
words_of spot = drop spot.below spot.operands.items

-- where the run stands without these words
abbrev pub below_words : {A : Type 0} → coded.Spot A → Spot
below_words spot = record (spot_of spot) {
  operands = reverse (take spot.below spot.operands.items);
}

-- the text that runs, or is evaluated, which is the only one of these words
abbrev pub text_in : List (List ℕ) → List ℕ
text_in [] = []
text_in (text ∷ more) = text

-- the result of an instruction: the run goes on; or a command, or its branches, begin by the words
-- on top; or the text there runs one level deeper, or is evaluated; or the code is over, with the
-- outcome that lies there; or an operand is missing
abbrev pub did_of : {A : Type 0} → Progress → coded.Spot A → Status → Did
did_of went.GoesOn spot s = Went (spot_of spot) s
did_of went.Begins spot s = Begins (words_of spot) (below_words spot) s
did_of went.Says spot s = Says (words_of spot) (below_words spot) s
did_of went.Runs spot s = Runs (text_in (words_of spot)) (spot.levels - 1) (below_words spot) s
did_of went.Evaluates spot s = Evaluates (text_in (words_of spot)) (below_words spot) s
did_of went.Over spot s = Over (outcome_of spot.outcome) s
did_of went.Stuck spot s = Stuck

-- the same where the words by which something begins lie apart from the operands
abbrev pub stop_of : {A : Type 0} → Progress → coded.Spot A → Status → Did
stop_of went.GoesOn spot s = did_of went.GoesOn spot s
stop_of went.Begins spot s = Begins spot.words.items (spot_of spot) s
stop_of went.Says spot s = Says spot.words.items (spot_of spot) s
stop_of went.Runs spot s = Runs (text_in spot.words.items) (spot.levels - 1) (spot_of spot) s
stop_of went.Evaluates spot s = Evaluates (text_in spot.words.items) (spot_of spot) s
stop_of went.Over spot s = did_of went.Over spot s
stop_of went.Stuck spot s = did_of went.Stuck spot s

-- the code is not over after an instruction, and no operand was missing
abbrev pub IsOpen : Progress → Type 0
IsOpen went.GoesOn = Unit {0}
IsOpen went.Begins = Unit {0}
IsOpen went.Says = Unit {0}
IsOpen went.Runs = Unit {0}
IsOpen went.Evaluates = Unit {0}
IsOpen went.Over = ⊥
IsOpen went.Stuck = ⊥

-- something begins by words after an instruction: a command, or its branches, or what a text says
abbrev pub IsCall : Progress → Type 0
IsCall went.GoesOn = ⊥
IsCall went.Begins = Unit {0}
IsCall went.Says = Unit {0}
IsCall went.Runs = Unit {0}
IsCall went.Evaluates = Unit {0}
IsCall went.Over = ⊥
IsCall went.Stuck = ⊥

-- whether something begins so (this project's own rule)
abbrev pub is_call : Progress → Bool
is_call went.GoesOn = false
is_call went.Begins = true
is_call went.Says = true
is_call went.Runs = true
is_call went.Evaluates = true
is_call went.Over = false
is_call went.Stuck = false

-- a state of the definition with these variables, these procedures and these ticks left
abbrev pub with_parts : Scopes → Procs → ℕ → Status → Status
with_parts scopes procedures left s =
    record s { scopes = scopes; procedures = procedures; left = left }

-- what is done with an outcome with this code and this value, where this was found to take it
abbrev pub led_by : Option Taker → Code → List ℕ → Spot → Status → Did
led_by None code value spot s = Over (Leaves code value) s
led_by (Some taker) code value spot s =
    led (Some taker.way) code value spot s (handler_of taker.handler) spot.handlers Stuck
