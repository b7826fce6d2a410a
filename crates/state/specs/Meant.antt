-- The value or the error of a function of texts, as a course.
use Rattle.std.specs.Prelude.{ℕ, List, Ok, Err}
use Rattle.acts.specs.Flaw.{text_of}
use Rattle.meanings.specs.Meaning.{Answer, Meaning, Gives, Raises, Splits, Matches}
use Rattle.plan.specs.Plan.{Reads}
use Rattle.state.specs.Dialogue.{Course, gives, raises}
use Rattle.state.specs.Listed.{with_list}
use Rattle.state.specs.Outcome as outcome
use Rattle.state.specs.Outcome.{Outcome, Leaves, Error}
use Rattle.state.specs.Piece.{TestText}
use Rattle.state.specs.Status.{Status}

-- the course continues with the value of a function of texts, once its texts are read, or ends with
-- its error (Tcl(n), rule 2; expr(n))
abbrev pub on_meaning : Meaning → Status → (List ℕ → Course) → Course
on_meaning (Gives value) s next = next value
on_meaning (Raises flaw) s next = raises flaw s
on_meaning (Splits text more) s next =
    with_list text s (λ elements. on_meaning (more elements) s next)
on_meaning (Matches pattern text more) s next =
    Reads (TestText pattern text) (λ takes. on_meaning (more takes) s next)

-- the course that ends with the value or the error of a function of texts; the state stays (Tcl(n),
-- rule 2)
abbrev pub meant : Meaning → Status → Course
meant meaning s = on_meaning meaning s (λ value. gives value s)

-- an answer as an outcome (Tcl(n), return codes)
abbrev pub told : Answer → Outcome
told (Ok value) = outcome.Gives value
told (Err flaw) = Leaves Error (text_of flaw)
