use Rattle.std.proofs.Common.{◌-◌, length}
use Rattle.code.proofs.conditional.+emit_branches.Given as goal

abbrev pub decreases-emit_from : goal.decreases-emit_from
decreases-emit_from g l = length l.own.now.tests.items - l.from
