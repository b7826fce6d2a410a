-- Where an outcome leads that is no value: to what takes it of all that is open.
use Rattle.std.specs.Prelude.{ℕ, List, [], ◌∷◌, decimal, Option, Some, None}
use Rattle.nesting.specs.Catch.{number_of}
use Rattle.state.specs.Prelude.{Break, Code, Continue, Error, Flaw, Gives, Leaves, Outcome, Status, Stops, text_of}
use Rattle.steps.specs.Moves.{jumping, lowest}
use Rattle.steps.specs.Spot.{Did, Handler, Over, Spot, Went, with_top}
use Rattle.steps.specs.declared.handler.Covered.{Covered}
use Rattle.steps.specs.declared.handler.Covered.TheVariants as covers
use Rattle.steps.specs.declared.handler.Way.{Way}
use Rattle.steps.specs.declared.handler.Way.TheVariants as way

-- which way an outcome with this code goes in what a handler covers: each to what follows the
-- script of a catch; break out of the loop; continue to the end of the body of a turn; every other
-- one is passed on (catch(n); break(n); continue(n); for(n))
abbrev pub way_of : Covered → Code → Option Way
way_of covers.Catch code = Some way.Caught
way_of (covers.Body end) Break = Some way.Out
way_of (covers.Body end) Continue = Some (way.End end)
way_of (covers.Body end) code = None
way_of covers.Step Break = Some way.Out
way_of covers.Step code = None

-- outside of what a handler covers, with these handlers (this project's own rule)
abbrev pub outside : Handler → List Handler → Spot → Spot
outside handler handlers spot = record {
  place = spot.place;
  operands = lowest handler.operands spot.operands;
  marks = lowest handler.marks spot.marks;
  levels = handler.levels;
  handlers = handlers;
}

-- the number of a code, and the value that came with it, on top (catch(n))
abbrev pub with_code : ℕ → List ℕ → Spot → Spot
with_code number value spot = with_top value (with_top (decimal number) spot)

-- what a handler does, with the handlers around it, where an outcome with this code and this value
-- goes this way: the loop is over; the body of the turn is, with an empty value; what follows the
-- script of the catch has the number of the code and the value on top; or what is around does this
-- (break(n); continue(n); catch(n))
abbrev pub led : Option Way → Code → List ℕ → Spot → Status → Handler → List Handler → Did → Did
led (Some way.Out) code value spot s handler handlers around =
    jumping handler.over (outside handler handlers spot) s
led (Some (way.End end)) code value spot s handler handlers around =
    jumping end (with_top [] (outside handler (handler ∷ handlers) spot)) s
led (Some way.Caught) code value spot s handler handlers around =
    jumping handler.over (with_code (number_of code) value (outside handler handlers spot)) s
led None code value spot s handler handlers around = around

-- what these handlers do with an outcome with this code and this value, the innermost first; where
-- none takes it, the code is over with it (Tcl(n), return codes)
abbrev pub handled : List Handler → Code → List ℕ → Spot → Status → Did
handled [] code value spot s = Over (Leaves code value) s
handled (handler ∷ handlers) code value spot s =
    led (way_of handler.covers code) code value spot s handler handlers
    (handled handlers code value spot s)

-- where the outcome of a command leads: its value is put on top; each other outcome goes to what
-- takes it of all that is open; and with a stop the code is over (Tcl(n), return codes)
abbrev pub resumed : Spot → Outcome → Status → Did
resumed spot (Gives value) s = Went (with_top value spot) s
resumed spot (Leaves code value) s = handled spot.handlers code value spot s
resumed spot (Stops stop) s = Over (Stops stop) s

-- an instruction fails here with an error, whose value is the error's text (Tcl(n), return codes)
abbrev pub fails : Flaw → Spot → Status → Did
fails flaw spot s = resumed spot (Leaves Error (text_of flaw)) s
