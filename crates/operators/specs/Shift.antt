-- How numbers are shifted.
use Rattle.std.specs.Prelude.{ℕ, ◌^◌, ℤ, pos, negsuc, ◌*ℤ◌}
use Rattle.acts.specs.Flaw as flaw
use Rattle.integers.specs.Division.{rounded_down}
use Rattle.meanings.specs.Meaning.{Meaning, Raises}
use Rattle.operators.specs.Number.{told}

-- what follows a count; a count below 0 is the error (expr(n), operators)
abbrev pub counted : ℤ → (ℕ → Meaning) → Meaning
counted (pos n) next = next n
counted (negsuc n) next = Raises flaw.NegativeShift

-- a << n is a * 2^n (expr(n), operators)
abbrev pub shift_left : ℤ → ℤ → Meaning
shift_left a count = counted count (λ n. told (a *ℤ pos (2 ^ n)))

-- a >> n is a / 2^n, rounded down (expr(n), operators)
abbrev pub shift_right : ℤ → ℤ → Meaning
shift_right a count = counted count (λ n. told (rounded_down a (2 ^ n)))
