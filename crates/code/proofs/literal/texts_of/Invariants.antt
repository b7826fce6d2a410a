use Rattle.std.proofs.Common.{drop}
use Rattle.code.proofs.Texts.{TextsLeft}
use Rattle.code.proofs.literal.texts_of.Given as goal

abbrev pub invariant-loop-word : goal.invariant-loop-word
invariant-loop-word g l = TextsLeft l.words (drop l.word-index l.words) l.texts.items
