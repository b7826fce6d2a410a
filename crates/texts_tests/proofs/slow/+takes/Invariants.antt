use Rattle.std.proofs.Common.{◌+◌, length}
use Rattle.texts_tests.proofs.slow.+takes.Given as goal

abbrev pub decreases-takes : goal.decreases-takes
decreases-takes l = length l.items.now + length l.text.now
