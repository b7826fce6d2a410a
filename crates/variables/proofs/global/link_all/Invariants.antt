use Rattle.std.proofs.Common.{◌≡◌, drop}
use Rattle.variables.specs.Global.{links}
use Rattle.variables.proofs.global.link_all.Given as goal

abbrev pub invariant-loop-word : goal.invariant-loop-word
invariant-loop-word g l =
    links l.words l.fn.scopes ≡ links (drop l.word-index l.words) l.scopes
