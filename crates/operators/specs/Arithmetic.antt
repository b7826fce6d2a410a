-- What the operators that need two numbers do.
use Rattle.std.specs.Prelude.{ℤ, ◌+ℤ◌, ◌-ℤ◌, ◌*ℤ◌}
use Rattle.integers.specs.Bits.{bits_and, bits_or, bits_xor}
use Rattle.meanings.specs.Meaning.{Meaning}
use Rattle.operators.specs.declared.arithmetic.Arithmetic.{Arithmetic}
use Rattle.operators.specs.declared.arithmetic.Arithmetic.TheVariants as operation
use Rattle.operators.specs.Division.{divide, modulo}
use Rattle.operators.specs.Number.{told}
use Rattle.operators.specs.Shift.{shift_left, shift_right}

-- the result of an operation on two numbers (expr(n), operators)
abbrev pub computed : Arithmetic → ℤ → ℤ → Meaning
computed operation.Multiply x y = told (x *ℤ y)
computed operation.Divide x y = divide x y
computed operation.Remainder x y = modulo x y
computed operation.Add x y = told (x +ℤ y)
computed operation.Subtract x y = told (x -ℤ y)
computed operation.ShiftLeft x y = shift_left x y
computed operation.ShiftRight x y = shift_right x y
computed operation.And x y = told (bits_and x y)
computed operation.Xor x y = told (bits_xor x y)
computed operation.Or x y = told (bits_or x y)
