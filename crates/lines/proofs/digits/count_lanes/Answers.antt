use Rattle.std.proofs.Common.{arith, ◌∙◌, sym}
use Rattle.lines.proofs.Lanes.{more_lower, rest_counted, rest_other}
use Rattle.lines.proofs.digits.count_lanes.Goals as goal

pub returns-clause-lower : goal.returns-clause-lower
returns-clause-lower c =
    rest_counted c.loop-done.done c.args.text.now c.loop-done.invariant.lower c.count_single.result
    c.count_single.ensures.lower

pub returns-clause-other : goal.returns-clause-other
returns-clause-other c =
    rest_other c.loop-done.done c.args.text.now c.loop-done.invariant.lower c.count_single.result
    c.count_single.ensures.other

pub loop-done-preserved : goal.loop-done-preserved
loop-done-preserved c = record {
  within = omega arith;
  lower = more_lower c.loop-done.done 16 c.args.text.now c.loop-done.invariant.lower
      (sym c.marks_of.ensures ∙ sym c.are_marked.ensures ∙ c.if-are_marked.true);
}
