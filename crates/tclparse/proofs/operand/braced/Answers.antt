use Rattle.std.proofs.Common.{inr, refl}
use Rattle.tclparse.specs.Tree.{no_parts}
use Rattle.tclparse.proofs.operand.braced.Goals as goal

pub returns-in_default-clause-tree : goal.returns-in_default-clause-tree
returns-in_default-clause-tree g c = (no_parts, inr (c.in_default.ensures.pair, refl, refl))
