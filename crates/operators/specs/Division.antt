-- What the operators that divide do.
use Rattle.std.specs.Prelude.{ℤ, pos, if◌then◌else◌}
use Rattle.std.specs.Ordering.{int_eq}
use Rattle.acts.specs.Flaw as flaw
use Rattle.integers.specs.Division.{quotient, remainder}
use Rattle.meanings.specs.Meaning.{Meaning, Raises}
use Rattle.operators.specs.Number.{told}

-- a divisor that is 0 is the error (expr(n), operators)
abbrev pub by : ℤ → Meaning → Meaning
by b meaning = if int_eq b (pos 0) then Raises flaw.DivideByZero else meaning

-- a / b (expr(n), operators)
abbrev pub divide : ℤ → ℤ → Meaning
divide a b = by b (told (quotient a b))

-- a % b (expr(n), operators)
abbrev pub modulo : ℤ → ℤ → Meaning
modulo a b = by b (told (remainder a b))
