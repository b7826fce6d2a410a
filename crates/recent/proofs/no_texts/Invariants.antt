use Rattle.recent.specs.Recent.{AreRead}
use Rattle.recent.proofs.no_texts.Given as goal

-- no place has a text
abbrev pub invariant-loop : goal.invariant-loop
invariant-loop g l = AreRead g.T.Shared.reads l.places.items
