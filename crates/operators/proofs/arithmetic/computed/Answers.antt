use Rattle.integers.specs.Bits.{bits_and, bits_or, bits_xor}
use Rattle.integers.proofs.Bits.{and_is, or_is, xor_is, and_fits, or_fits, xor_fits}
use Rattle.operators.proofs.arithmetic.computed.Goals as goal

pub returns-in-And : goal.returns-in-And
returns-in-And g c =
    let x = c.args.x in
    let y = c.args.y in
    rw c.in-And.is
    (c.told-in-And.ensures (bits_and x y)
    (and_fits x y c.ranges.x c.ranges.y, and_is x y c.ranges.x c.ranges.y))

pub returns-in-Xor : goal.returns-in-Xor
returns-in-Xor g c =
    let x = c.args.x in
    let y = c.args.y in
    rw c.in-Xor.is
    (c.told-in-Xor.ensures (bits_xor x y)
    (xor_fits x y c.ranges.x c.ranges.y, xor_is x y c.ranges.x c.ranges.y))

pub returns-in-Or : goal.returns-in-Or
returns-in-Or g c =
    let x = c.args.x in
    let y = c.args.y in
    rw c.in-Or.is
    (c.told-in-Or.ensures (bits_or x y)
    (or_fits x y c.ranges.x c.ranges.y, or_is x y c.ranges.x c.ranges.y))
