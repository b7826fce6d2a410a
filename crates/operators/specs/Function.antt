-- What the functions of formulas do.
use Rattle.std.specs.Prelude.{ℕ, List, [], ◌∷◌, ℤ, pos, unsigned_abs}
use Rattle.std.specs.Int.{int_min, int_max}
use Rattle.std.specs.List.{fold}
use Rattle.acts.specs.Flaw as flaw
use Rattle.meanings.specs.Meaning.{Meaning, Raises}
use Rattle.tclparse.specs.declared.operator.Function.{Function}
use Rattle.tclparse.specs.declared.operator.Function.TheVariants as function
use Rattle.operators.specs.declared.functions.Extreme.{Extreme}
use Rattle.operators.specs.declared.functions.Extreme.TheVariants as extreme
use Rattle.operators.specs.Number.{with_number, with_all, told}

-- the absolute value of a number (mathfunc(n), abs)
abbrev pub absolute : List ℕ → Meaning
absolute text = with_number text (λ n. told (pos (unsigned_abs n)))

-- the lesser or the greater of two numbers (mathfunc(n), min, max)
abbrev pub chosen : Extreme → ℤ → ℤ → ℤ
chosen extreme.Least x y = int_min x y
chosen extreme.Greatest x y = int_max x y

-- the least or greatest of numbers, of which there is one at least (mathfunc(n), min, max)
abbrev pub among : Extreme → List ℤ → Meaning
among which [] = Raises flaw.BadExpression
among which (n ∷ numbers) = told (fold (chosen which) n numbers)

-- the result of a function for its operands; a wrong number of them is a fault of the formula
-- (mathfunc(n))
abbrev pub call : Function → List (List ℕ) → Meaning
call function.Abs (a ∷ []) = absolute a
call function.Abs _ = Raises flaw.BadExpression
call function.Min operands = with_all operands (among extreme.Least)
call function.Max operands = with_all operands (among extreme.Greatest)
