use Rattle.std.proofs.Common.{◌≡◌, ◌++◌, map, [], length, false, IsTrue}
use Rattle.patterns.specs.Glob.{signs, item_of}
use Rattle.patterns.specs.Runs.{items_of_run, starred_items}
use Rattle.patterns.proofs.Signs.{dollar_after}
use Rattle.patterns.proofs.read.read_runs.Given as goal

-- The items read so far and those of the unread text are the items of the whole text; where a `$`
-- may tie and all is read, the last sign was no bare `$`.
abbrev pub invariant-loop-sign : goal.invariant-loop-sign
invariant-loop-sign g l = record {
  items : starred_items l.starred.items (items_of_run l.last) ++ map item_of (signs l.rest)
      ≡ map item_of (signs l.text);
  dollar : dollar_after l.dollar (signs l.rest) ≡ dollar_after false (signs l.text);
  untied : IsTrue l.may_tie → l.rest ≡ [] → l.dollar ≡ false;
}

abbrev pub decreases-loop-sign : goal.decreases-loop-sign
decreases-loop-sign g l = length l.rest
