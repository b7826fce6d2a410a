-- What expr does.
use Rattle.std.specs.Prelude.{ℕ, List, [], ◌∷◌, codes}
use Rattle.state.specs.Prelude.{Course, gives, on_value, raises, Outcome, Status}
use Rattle.acts.specs.Flaw as flaw
use Rattle.nesting.specs.Formulas.{with_formula}
use Rattle.nesting.specs.declared.expr.Held.{Held}
use Rattle.state.specs.Evaluated.{valued}
use Rattle.operators.specs.Value.{result}
use Rattle.pure.specs.Concat.{concatenated}

-- expr w ..: the value of the formula that the words make, joined as by concat (expr(n))
abbrev pub expr : ℕ → List (List ℕ) → Status → Course
expr levels [] s = raises (flaw.WrongArgs (codes "expr")) s
expr levels (first ∷ more) s =
    with_formula (concatenated (first ∷ more)) s (λ formula.
    valued levels formula s (λ t value. gives value t))

-- the value of a formula is what expr gives (expr(n))
abbrev pub told : Status → List ℕ → Course
told s value = gives (result value) s

-- what follows the formula (expr(n))
abbrev pub next_of : Held → Status → Outcome → Course
next_of held = on_value told
