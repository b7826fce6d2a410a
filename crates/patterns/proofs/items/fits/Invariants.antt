use Rattle.std.proofs.Common.{◌+◌, ◌≤◌, length}
use Rattle.patterns.specs.Runs.{Fits, items_of}
use Rattle.patterns.proofs.items.fits.Given as goal

-- the remaining items fit the rest of the text exactly where the whole run fits the whole text
abbrev pub invariant-loop-tokens : goal.invariant-loop-tokens
invariant-loop-tokens g l = record {
  to : Fits (items_of l.run) l.fn.text → Fits (items_of l.tokens) l.rest;
  from : Fits (items_of l.tokens) l.rest → Fits (items_of l.run) l.fn.text;
  steps : l.steps + length l.tokens ≤ l.initial.steps + length l.run;
}

abbrev pub decreases-loop-tokens : goal.decreases-loop-tokens
decreases-loop-tokens g l = length l.tokens
