-- What the operators before an operand do.
use Rattle.std.specs.Prelude.{ℕ, List, Bool, not, neg_ℤ, Result, Ok, Err}
use Rattle.acts.specs.Flaw.{Flaw}
use Rattle.integers.specs.Bits.{complement}
use Rattle.meanings.specs.Meaning.{Meaning, Gives, Raises, truth}
use Rattle.tclparse.specs.declared.operator.Unary.{Unary}
use Rattle.tclparse.specs.declared.operator.Unary.TheVariants as operator
use Rattle.operators.specs.Number.{with_number, told}
use Rattle.operators.specs.Truth.{truth_of}

-- the opposite truth value, as 0 or 1; an operand without a truth value is the error (expr(n),
-- operators)
abbrev pub turned : Result Bool Flaw → Meaning
turned (Ok holds) = Gives (truth (not holds))
turned (Err flaw) = Raises flaw

-- the result of an operator for its operand (expr(n), operators)
abbrev pub unary : Unary → List ℕ → Meaning
unary operator.Negate text = with_number text (λ n. told (neg_ℤ n))
unary operator.Plus text = with_number text (λ n. told n)
unary operator.Complement text = with_number text (λ n. told (complement n))
unary operator.Not text = turned (truth_of text)
