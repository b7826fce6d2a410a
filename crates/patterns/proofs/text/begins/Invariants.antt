use Rattle.std.proofs.Common.{length, map}
use Rattle.patterns.specs.Item.{literal}
use Rattle.patterns.specs.Runs.{Fits}
use Rattle.patterns.proofs.text.begins.Given as goal

-- the rest of the text begins with the remaining bytes exactly where the text begins with all of
-- them
abbrev pub invariant-loop-wanted : goal.invariant-loop-wanted
invariant-loop-wanted l = record {
  to : Fits (map literal l.bytes) l.fn.text → Fits (map literal l.wanted) l.rest;
  from : Fits (map literal l.wanted) l.rest → Fits (map literal l.bytes) l.fn.text;
}

abbrev pub decreases-loop-wanted : goal.decreases-loop-wanted
decreases-loop-wanted l = length l.wanted
