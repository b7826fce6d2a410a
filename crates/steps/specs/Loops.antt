-- What the instructions of loops do.
use Rattle.std.specs.Prelude.{ℕ, ◌∷◌, Bool, true, false, length}
use Rattle.operators.specs.Truth.{truth_of}
use Rattle.state.specs.Prelude.{Status}
use Rattle.steps.specs.Formulas.{on_truth}
use Rattle.steps.specs.Moves.{on_top, ticked, with_operands}
use Rattle.steps.specs.Spot.{Did, Handler, Spot, Went}
use Rattle.steps.specs.declared.handler.Covered.TheVariants as covers

-- what continue and break do in a turn that begins here, whose body ends at this place (while(n))
abbrev pub handler_at : ℕ → Spot → Handler
handler_at end spot = record {
  covers = covers.Body end;
  over = spot.place;
  operands = length spot.operands;
  marks = length spot.marks;
  levels = spot.levels;
}

-- a turn begins: its body, at the first place, is next (while(n))
abbrev pub begin_turn : ℕ → ℕ → Spot → Spot
begin_turn body end spot = record spot {
  place = body;
  handlers = handler_at end spot ∷ spot.handlers;
}

-- after the truth value of the test: a turn takes a tick and begins, or the loop is over (while(n);
-- the tick is this project's own rule)
abbrev pub turned : ℕ → ℕ → Bool → Spot → Status → Did
turned body end true spot s = ticked s.left s (λ t. Went (begin_turn body end spot) t)
turned body end false spot s = Went spot s

-- the value of the test is dropped, by which the next turn begins or the loop is over (while(n))
abbrev pub turning : ℕ → ℕ → Spot → Status → Did
turning body end spot s =
    on_top spot.operands (λ value below.
    on_truth (truth_of value) (with_operands below spot) s (λ holds.
    turned body end holds (with_operands below spot) s))

-- what continue and break do once the body of the turn is over: continue is passed on (for(n))
abbrev pub after_body : Handler → Handler
after_body handler = record handler { covers = covers.Step }

-- the body of a turn is over, its value is dropped, and the script after it begins (for(n))
abbrev pub stepping : Spot → Status → Did
stepping spot s =
    on_top spot.operands (λ value below. on_top spot.handlers (λ handler handlers.
    Went (record spot { operands = below; handlers = after_body handler ∷ handlers }) s))

-- a turn is over, and the value on top is dropped (while(n), for(n))
abbrev pub ending : Spot → Status → Did
ending spot s =
    on_top spot.operands (λ value below. on_top spot.handlers (λ handler handlers.
    Went (record spot { operands = below; handlers = handlers }) s))
