-- How tightly the operators of formulas bind.
use Rattle.std.specs.Prelude.{ℕ}
use Rattle.tclparse.specs.declared.operator.Binary.{Binary}
use Rattle.tclparse.specs.declared.operator.Binary.TheVariants.{Multiply, Divide, Remainder, Add, Subtract, ShiftLeft, ShiftRight, Less, Greater, LessEqual, GreaterEqual, Equal, NotEqual, TextEqual, TextNotEqual, In, NotIn, And, Xor, Or}
use Rattle.tclparse.specs.declared.operator.Infix.{Infix}
use Rattle.tclparse.specs.declared.operator.Infix.TheVariants.{Both, AndAlso, OrElse}

-- The level of an operator: the lower, the tighter it binds; prefixes have level 1 (expr(n),
-- operators).
abbrev pub binary_level : Binary → ℕ
binary_level Multiply = 2
binary_level Divide = 2
binary_level Remainder = 2
binary_level Add = 3
binary_level Subtract = 3
binary_level ShiftLeft = 4
binary_level ShiftRight = 4
binary_level Less = 5
binary_level Greater = 5
binary_level LessEqual = 5
binary_level GreaterEqual = 5
binary_level Equal = 6
binary_level NotEqual = 6
binary_level TextEqual = 7
binary_level TextNotEqual = 7
binary_level In = 8
binary_level NotIn = 8
binary_level And = 9
binary_level Xor = 10
binary_level Or = 11

-- the level of what joins two operands
abbrev pub level : Infix → ℕ
level (Both b) = binary_level b
level AndAlso = 12
level OrElse = 13
