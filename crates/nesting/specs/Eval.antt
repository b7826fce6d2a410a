-- What eval does.
use Rattle.std.specs.Prelude.{ℕ, List, [], ◌∷◌, codes}
use Rattle.state.specs.Prelude.{Ends, Course, raises, within, Outcome, Status}
use Rattle.acts.specs.Flaw as flaw
use Rattle.nesting.specs.declared.eval.Held.{Held}
use Rattle.pure.specs.Concat.{concatenated}

-- what the script ends with is passed on, whatever it is (eval(n))
abbrev pub passed : Status → Outcome → Course
passed s outcome = Ends (s, outcome)

-- eval w ..: the words, joined as concat joins them, are a script that runs (eval(n))
abbrev pub eval : ℕ → List (List ℕ) → Status → Course
eval levels [] s = raises (flaw.WrongArgs (codes "eval")) s
eval levels (w ∷ ws) s = within levels (concatenated (w ∷ ws)) s passed

-- what follows the script (eval(n))
abbrev pub next_of : Held → Status → Outcome → Course
next_of held = passed
