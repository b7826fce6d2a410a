use Rattle.worlds.proofs.WordChains.{SoFar}
use Rattle.worlds.proofs.input.read_words.Given as goal

-- the words so far, and behind them those from this place on, are all words
abbrev pub invariant-loop-place : goal.invariant-loop-place
invariant-loop-place g l = SoFar (g.R.ArgumentList.gives l.rt) l.place l.words.items
