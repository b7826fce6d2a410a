use Rattle.std.proofs.Common.{◌≡◌, ◌≤◌, ◌*◌, take}
use Rattle.choices.specs.Lines.{held_by, allowed_to}
use Rattle.choices.proofs.table.sum_held.Given as goal

-- the sum so far, which is at most what may be held
abbrev pub invariant-loop-entry : goal.invariant-loop-entry
invariant-loop-entry g l = record {
  sum : l.sum ≡ held_by (take l.entry-index l.entries);
  within : l.sum ≤ allowed_to (take l.entry-index l.entries);
  small : allowed_to (take l.entry-index l.entries) ≤ 1000000 * l.entry-index;
}
