use Rattle.std.proofs.Common.{arith}
use Rattle.std.proofs.lemmas.Nat.{mul-le}
use Rattle.tcltext.proofs.escape.number.Goals as goal

pub overflow_mul-longer : goal.overflow_mul-longer
overflow_mul-longer c =
    omega (arith, mul-le c.from.result c.from-in-len1-up.result 16 255 (omega arith) (omega arith))

pub overflow_add-longer : goal.overflow_add-longer
overflow_add-longer c =
    omega (arith, mul-le c.from.result c.from-in-len1-up.result 16 255 (omega arith) (omega arith))
