use Rattle.std.proofs.Common.{arith}
use Rattle.lines.proofs.Lanes.{more_spelled}
use Rattle.lines.proofs.digits.write_digits.Goals as goal

pub loop-done-preserved : goal.loop-done-preserved
loop-done-preserved c = record {
  within = omega arith;
  spelled = more_spelled 16 c.loop-done.done c.args.bytes.now c.loop-done.digits (omega arith)
      (omega arith) c.spell.result.0 c.spell.result.1 c.spell.ensures.halves
      c.spell.ensures.digits c.loop-done.invariant.spelled;
}
