-- What the operators between two operands do.
use Rattle.std.specs.Prelude.{ℕ, List, not}
use Rattle.std.specs.Ordering.{is_eq, is_ne, is_lt, is_gt, is_le, is_ge}
use Rattle.std.specs.Str.{bytes_eq}
use Rattle.meanings.specs.Meaning.{Meaning, Gives, truth}
use Rattle.tclparse.specs.declared.operator.Binary.{Binary}
use Rattle.tclparse.specs.declared.operator.Binary.TheVariants as operator
use Rattle.operators.specs.declared.arithmetic.Arithmetic.TheVariants as operation
use Rattle.operators.specs.Arithmetic.{computed}
use Rattle.operators.specs.Member.{is_in, is_not_in}
use Rattle.operators.specs.Number.{with_both}
use Rattle.operators.specs.Order.{compared}

-- the result of an operator for its operands (expr(n), operators)
abbrev pub binary : Binary → List ℕ → List ℕ → Meaning
binary operator.Multiply a b = with_both a b (computed operation.Multiply)
binary operator.Divide a b = with_both a b (computed operation.Divide)
binary operator.Remainder a b = with_both a b (computed operation.Remainder)
binary operator.Add a b = with_both a b (computed operation.Add)
binary operator.Subtract a b = with_both a b (computed operation.Subtract)
binary operator.ShiftLeft a b = with_both a b (computed operation.ShiftLeft)
binary operator.ShiftRight a b = with_both a b (computed operation.ShiftRight)
binary operator.Less a b = compared is_lt a b
binary operator.Greater a b = compared is_gt a b
binary operator.LessEqual a b = compared is_le a b
binary operator.GreaterEqual a b = compared is_ge a b
binary operator.Equal a b = compared is_eq a b
binary operator.NotEqual a b = compared is_ne a b
binary operator.TextEqual a b = Gives (truth (bytes_eq a b))
binary operator.TextNotEqual a b = Gives (truth (not (bytes_eq a b)))
binary operator.In a b = is_in a b
binary operator.NotIn a b = is_not_in a b
binary operator.And a b = with_both a b (computed operation.And)
binary operator.Xor a b = with_both a b (computed operation.Xor)
binary operator.Or a b = with_both a b (computed operation.Or)
