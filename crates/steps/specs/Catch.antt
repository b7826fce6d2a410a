-- What the instructions of catch do.
use Rattle.std.specs.Prelude.{ℕ, List, ◌∷◌, length}
use Rattle.state.specs.Prelude.{Status}
use Rattle.steps.specs.Handling.{with_code}
use Rattle.steps.specs.Moves.{on_top, with_operands}
use Rattle.steps.specs.Spot.{Spot, Did, Handler, Went}
use Rattle.steps.specs.Storing.{storing}
use Rattle.steps.specs.declared.handler.Covered.TheVariants as covers
use Rattle.tclparse.specs.Variable.{named}

-- what is open once the script of a catch has begun here, whose outcome leads to this place
-- (catch(n))
abbrev pub catch_at : ℕ → Spot → Handler
catch_at place spot = record {
  covers = covers.Catch;
  over = place;
  operands = length spot.operands;
  marks = length spot.marks;
  levels = spot.levels;
}

-- the script of a catch begins, and each outcome but a value leads to this place (catch(n))
abbrev pub catching : ℕ → Spot → Status → Did
catching place spot s =
    Went (record spot { handlers = catch_at place spot ∷ spot.handlers }) s

-- the script of a catch is over: the number of ok is put below its value (catch(n))
abbrev pub ending_catch : Spot → Status → Did
ending_catch spot s =
    on_top spot.operands (λ value below. on_top spot.handlers (λ handler handlers.
    Went (with_code 0 value (record spot { operands = below; handlers = handlers })) s))

-- the variable that this word names takes the value on top, which is dropped (catch(n))
abbrev pub keeping : List ℕ → Spot → Status → Did
keeping word spot s =
    on_top spot.operands (λ value below. storing (named word) value (with_operands below spot) s)
