-- What the instructions of foreach do.
use Rattle.std.specs.Prelude.{ℕ, List, [], ◌∷◌, ◌++◌, codes, length, nat_le, Option, Some, None, Result, Ok, Err, if◌then◌else◌}
use Rattle.meanings.specs.Meaning.{flaw_of_list}
use Rattle.state.specs.Piece.{ListText}
use Rattle.state.specs.Prelude.{Status}
use Rattle.steps.specs.Handling.{fails}
use Rattle.steps.specs.Moves.{jumping, lowest, on_top, with_operands}
use Rattle.steps.specs.Spot.{Spot, Did, Went, Reads, Begins, Stuck, with_top}
use Rattle.steps.specs.Storing.{storing}
use Rattle.tclparse.specs.Variable.{named}
use Rattle.tclstate.specs.Procs.{Procedure}
use Rattle.tcltext.specs.Flaw as list

-- foreach with these variables, the list on top and this body begins by its words, and this place
-- is next; there is no way back (Tcl(n), rule 2)
abbrev pub by_words : List ℕ → List ℕ → ℕ → Spot → Status → Did
by_words variables body place spot s =
    on_top spot.operands (λ text below.
    if nat_le spot.place place
    then Begins (codes "foreach" ∷ variables ∷ text ∷ body ∷ [])
    (record spot { place = place; operands = below }) s
    else Stuck)

-- where a procedure hides foreach it begins by its words, else the run goes on (proc(n))
abbrev pub hidden : Option Procedure → List ℕ → List ℕ → ℕ → Spot → Status → Did
hidden None variables body place spot s = Went spot s
hidden (Some procedure) variables body place spot s = by_words variables body place spot s

-- the elements of a list are put on top, the first one uppermost, and marked, and this place is
-- next; or the text is no list (foreach(n))
abbrev pub dealt : ℕ → Spot → Status → Result (List (List ℕ)) list.Flaw → Did
dealt place spot s (Ok elements) =
    jumping place (record spot {
      operands = elements ++ spot.operands;
      marks = length spot.operands ∷ spot.marks;
    }) s
dealt place spot s (Err why) = fails (flaw_of_list why) spot s

-- the text on top is read as the list of a foreach (foreach(n))
abbrev pub dealing : ℕ → Spot → Status → Did
dealing place spot s =
    on_top spot.operands (λ text below.
    Reads (ListText text) (dealt place (with_operands below spot) s))

-- where no element is left, this place is next (foreach(n))
abbrev pub looking : ℕ → Spot → Status → Did
looking place spot s =
    on_top spot.marks (λ mark marks.
    if nat_le (length spot.operands) mark then jumping place spot s else Went spot s)

-- goes on with the next element, which is taken off, or with the empty text where none is left
-- (foreach(n))
abbrev pub taking : Spot → (List ℕ → Spot → Did) → Did
taking spot next =
    on_top spot.marks (λ mark marks.
    if nat_le (length spot.operands) mark then next [] spot
    else on_top spot.operands (λ value below. next value (with_operands below spot)))

-- the variable of this name takes the next element (foreach(n))
abbrev pub assigning : List ℕ → Spot → Status → Did
assigning word spot s = taking spot (λ value after. storing (named word) value after s)

-- the elements that are left are dropped, with their mark, and the value is empty (foreach(n))
abbrev pub finishing : Spot → Status → Did
finishing spot s =
    on_top spot.marks (λ mark marks.
    Went (with_top [] (record spot { operands = lowest mark spot.operands; marks = marks })) s)
