use Rattle.std.proofs.Common.{◌≡◌, drop}
use Rattle.variables.specs.Unset.{removes}
use Rattle.variables.proofs.unset.remove_all.Given as goal

abbrev pub invariant-loop-word : goal.invariant-loop-word
invariant-loop-word g l =
    removes l.quiet l.words l.fn.scopes ≡ removes l.quiet (drop l.word-index l.words) l.scopes
