use Rattle.std.proofs.Common.{◌+◌, ◌*◌, length}
use Rattle.code.proofs.switch.+emit_arms.Given as goal

abbrev pub decreases-emit_shared : goal.decreases-emit_shared
decreases-emit_shared g l = 3 * length l.more.now + 1

abbrev pub decreases-emit_arm : goal.decreases-emit_arm
decreases-emit_arm g l = 3 * length l.more.now + 2

abbrev pub decreases-emit_arms : goal.decreases-emit_arms
decreases-emit_arms g l = 3 * length l.arms.now

abbrev pub decreases-emit_rest : goal.decreases-emit_rest
decreases-emit_rest g l = 3 * length l.arms.now + 1
