use Rattle.integers.proofs.Bits.{and_bit, or_bit, xor_bit, complement_bit}
use Rattle.integers.proofs.laws.bits_are_those.Goals as goal

pub returns-clause-and : goal.returns-clause-and
returns-clause-and c a b i left right below = and_bit a b left right i below

pub returns-clause-or : goal.returns-clause-or
returns-clause-or c a b i left right below = or_bit a b left right i below

pub returns-clause-xor : goal.returns-clause-xor
returns-clause-xor c a b i left right below = xor_bit a b left right i below

pub returns-clause-complement : goal.returns-clause-complement
returns-clause-complement c = complement_bit
