use Rattle.std.proofs.Common.{◌≡◌, drop, is_some}
use Rattle.std.specs.List.{list_all}
use Rattle.tclparse.specs.Variable.{named}
use Rattle.code.proofs.each.all_named.Given as goal

abbrev pub invariant-loop-word : goal.invariant-loop-word
invariant-loop-word g l =
    list_all (λ w. is_some (named w)) l.words
    ≡ list_all (λ w. is_some (named w)) (drop l.word-index l.words)
