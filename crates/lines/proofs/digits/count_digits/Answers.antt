use Rattle.std.proofs.Common.{arith, ◌∙◌, sym}
use Rattle.lines.proofs.Lanes.{rest_counted, rest_other}
use Rattle.lines.proofs.digits.count_digits.Goals as goal

pub returns-clause-lower : goal.returns-clause-lower
returns-clause-lower c =
    rest_counted c.loop-done.done c.args.text.now c.loop-done.invariant.lower c.count_lanes.result
    c.count_lanes.ensures.lower

pub returns-clause-other : goal.returns-clause-other
returns-clause-other c =
    rest_other c.loop-done.done c.args.text.now c.loop-done.invariant.lower c.count_lanes.result
    c.count_lanes.ensures.other

pub loop-done-preserved : goal.loop-done-preserved
loop-done-preserved c = record {
  within = omega arith;
  lower = rest_counted c.loop-done.done c.args.text.now c.loop-done.invariant.lower 128
      (sym c.is_block.ensures ∙ c.if-is_block.true);
}
