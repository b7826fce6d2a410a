use Rattle.std.proofs.Common.{◌≡◌, ◌++◌, drop}
use Rattle.dialog.proofs.kept_branches.same_words.Given as goal

-- the words so far, and those still to be shared
abbrev pub invariant-loop-word : goal.invariant-loop-word
invariant-loop-word g l = l.same.items ++ drop l.word-index l.words ≡ l.words
