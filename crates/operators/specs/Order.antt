-- How operands are compared.
use Rattle.std.specs.Prelude.{ℕ, List, Bool, Option, Some, ℤ}
use Rattle.std.specs.Cmp.Lexicographic.{slice_cmp}
use Rattle.std.specs.Ordering.{nat_cmp, int_cmp}
use Rattle.std.specs.declared.cmp.Ordering.{Ordering}
use Rattle.meanings.specs.Meaning.{Meaning, Gives, truth}
use Rattle.operators.specs.Number.{number_of}

-- two numbers as numbers, all else byte by byte (expr(n), operators)
abbrev pub order_of : Option ℤ → Option ℤ → List ℕ → List ℕ → Ordering
order_of (Some x) (Some y) left right = int_cmp x y
order_of _ _ left right = slice_cmp nat_cmp left right

-- how two texts are ordered: as numbers where both are numbers, else byte by byte (expr(n),
-- operators)
abbrev pub order : List ℕ → List ℕ → Ordering
order left right = order_of (number_of left) (number_of right) left right

-- a test of that order gives 0 or 1 (expr(n), operators)
abbrev pub compared : (Ordering → Bool) → List ℕ → List ℕ → Meaning
compared test left right = Gives (truth (test (order left right)))
