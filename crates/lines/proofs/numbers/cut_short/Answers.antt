use Rattle.std.proofs.Common.{refl, arith}
use Rattle.lines.proofs.Decimals.{digit_read}
use Rattle.lines.proofs.numbers.cut_short.Goals as goal

pub loop-digit-preserved : goal.loop-digit-preserved
loop-digit-preserved c =
    let (small, within, is) = c.in-Some.ensures in
    let (so_far, fits) = c.loop-digit.invariant in
    let some = rw c.if-is_behind_zero.false at c.is_behind_zero.ensures in (
      digit_read c.args.text.now c.loop-digit.place c.loop-digit.number c.in-Some.digit _ within small is
          refl (omega arith) some so_far,
      omega (arith, within),
    )
