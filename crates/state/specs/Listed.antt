-- What follows a text that is read as a list.
use Rattle.std.specs.Prelude.{ℕ, List, Result, Ok, Err}
use Rattle.meanings.specs.Meaning.{flaw_of_list}
use Rattle.plan.specs.Plan.{Reads}
use Rattle.state.specs.Dialogue.{Course, raises}
use Rattle.state.specs.Piece.{ListText}
use Rattle.state.specs.Status.{Status}
use Rattle.tcltext.specs.Flaw.{Flaw}

-- continues with the elements of the list that a text is; where the text is none, the reason is the
-- script's error (Tcl_SplitList(3))
abbrev pub on_list : Status → (List (List ℕ) → Course) → Result (List (List ℕ)) Flaw → Course
on_list s next (Ok elements) = next elements
on_list s next (Err why) = raises (flaw_of_list why) s

-- a text is read as a list, and the course continues with its elements (Tcl_SplitList(3))
abbrev pub with_list : List ℕ → Status → (List (List ℕ) → Course) → Course
with_list text s next = Reads (ListText text) (on_list s next)
