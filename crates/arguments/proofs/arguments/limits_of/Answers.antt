use Rattle.std.proofs.Common.{arith}
use Rattle.arguments.proofs.Limits.{no_limits}
use Rattle.arguments.proofs.arguments.limits_of.Goals as goal

pub returns-in_ok-ticks-in-Some-clause-none : goal.returns-in_ok-ticks-in-Some-clause-none
returns-in_ok-ticks-in-Some-clause-none c =
    rw c.in-Some.is (no_limits c.new.result c.in_ok-ticks-in-Some.ticks c.in-Some.limit.now
    c.new.ensures.in_range
    c.in_ok-ticks-in-Some.ensures.spelled (omega arith))
