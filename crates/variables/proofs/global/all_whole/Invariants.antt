use Rattle.std.proofs.Common.{◌≡◌, drop}
use Rattle.variables.specs.Global.{all_whole}
use Rattle.variables.proofs.global.all_whole.Given as goal

abbrev pub invariant-loop-word : goal.invariant-loop-word
invariant-loop-word g l = all_whole l.words ≡ all_whole (drop l.word-index l.words)
