use Rattle.tclstate.proofs.Sums.{IfNone_holds, is_sum, missed_number, missed_range, missed_room}
use Rattle.tclstate.proofs.sum.add_to.Goals as goal

pub returns-clause-added : goal.returns-clause-added
returns-clause-added g c =
    is_sum c.args.by c.in_ok-number.number c.in_ok-sum.sum c.args.text.now c.in_ok-value.value
    c.in_ok-number.ensures.value c.in_ok-number.ensures.in_range c.ranges.by
    c.in_ok-sum.ensures.0 c.in_ok-sum.ensures.1 c.in_ok-value.ensures.text

pub returns-in_err-number-clause-missed : goal.returns-in_err-number-clause-missed
returns-in_err-number-clause-missed g c =
    IfNone_holds c.from_residual.result
    (missed_number c.args.by c.args.text.now c.in_err-number.ensures.value)

pub returns-in_err-sum-clause-missed : goal.returns-in_err-sum-clause-missed
returns-in_err-sum-clause-missed g c =
    IfNone_holds c.from_residual-in_err-sum.result
    (missed_range c.args.by c.in_ok-number.number c.args.text.now c.in_ok-number.ensures.value
    c.in_ok-number.ensures.in_range c.ranges.by c.in_err-sum.ensures)

pub returns-in_err-kept-in-Err-clause-missed : goal.returns-in_err-kept-in-Err-clause-missed
returns-in_err-kept-in-Err-clause-missed g c =
    IfNone_holds c.from_residual-in_err-kept-in-Err.result
    (missed_room c.args.by c.in_ok-number.number c.args.text.now c.in_ok-number.ensures.value
    c.in_ok-number.ensures.in_range c.ranges.by c.in_ok-sum.sum c.in_ok-sum.ensures.1
    c.in_err-kept-in-Err.ensures.room)

pub returns-in_err-value-clause-missed : goal.returns-in_err-value-clause-missed
returns-in_err-value-clause-missed g c =
    IfNone_holds c.from_residual-in_err-value.result
    (missed_room c.args.by c.in_ok-number.number c.args.text.now c.in_ok-number.ensures.value
    c.in_ok-number.ensures.in_range c.ranges.by c.in_ok-sum.sum c.in_ok-sum.ensures.1
    c.in_err-value.ensures.room)
