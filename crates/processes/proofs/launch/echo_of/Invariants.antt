use Rattle.std.proofs.Common.{◌≡◌, ◌++◌, drop}
use Rattle.std.specs.Prelude.{codes}
use Rattle.processes.specs.Launch.{after_blanks}
use Rattle.processes.specs.View.{words_of}
use Rattle.processes.proofs.launch.echo_of.Given as goal

abbrev pub invariant-loop-word : goal.invariant-loop-word
invariant-loop-word g l =
    l.line.items ++ after_blanks (words_of (drop l.word-index l.words))
    ≡ codes "spawn" ++ after_blanks (words_of l.words)
