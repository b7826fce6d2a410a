-- What is done with a text that is read as a formula.
use Rattle.std.specs.Prelude.{Result, Ok, Err}
use Rattle.code.specs.declared.made.CodedFormula.{CodedFormula}
use Rattle.state.specs.Prelude.{flaw_of, Fault, Course, raises, Status}
use Rattle.tclparse.specs.Formula.{Formula}

-- the course after a formula that was read, or the script's error
abbrev pub course_of_read : {A : Type 0} →
    Result (CodedFormula A) (Fault A) → Status → (Formula → Course) → Course
course_of_read (Ok formula) s next = next formula
course_of_read (Err fault) s next = raises (flaw_of fault) s
