use Rattle.std.proofs.Common.{◌≡◌, take}
use Rattle.processes.specs.View.{words_of}
use Rattle.processes.proofs.launch.copies_of.Given as goal

abbrev pub invariant-loop-word : goal.invariant-loop-word
invariant-loop-word g l = words_of l.copies.items ≡ take l.word-index l.words
