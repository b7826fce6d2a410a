use Rattle.std.proofs.Common.{◌≡◌, length}
use Rattle.std.specs.Prelude.{reverse}
use Rattle.variables.specs.Array.Unset.{removes}
use Rattle.variables.proofs.array.unset.remove_all.Given as goal

abbrev pub invariant-loop-index : goal.invariant-loop-index
invariant-loop-index g l =
    removes l.name (reverse l.fn.indexes.items) l.fn.scopes
    ≡ removes l.name (reverse l.indexes.items) l.scopes

abbrev pub decreases-loop-index : goal.decreases-loop-index
decreases-loop-index g l = length l.indexes.items
