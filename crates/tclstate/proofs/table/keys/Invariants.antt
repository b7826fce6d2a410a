use Rattle.std.proofs.Common.{◌≡◌, ◌++◌, map}
use Rattle.tclstate.specs.Pairs.{keys_of}
use Rattle.tclstate.specs.Stored.{texts_of}
use Rattle.tclstate.proofs.table.keys.Given as goal

-- the names so far and the keys that are still to come are all keys
abbrev pub invariant-loop-index : goal.invariant-loop-index
invariant-loop-index g l = l.names.items ++ map (λ k. k.items) l.index-iterator
    ≡ keys_of (texts_of l.elements.entries)
