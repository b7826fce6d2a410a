use Rattle.std.proofs.Common.{◌≡◌, ◌≤◌, ◌*◌, take}
use Rattle.choices.specs.Lines.{allowed_to}
use Rattle.choices.proofs.table.sum_allowed.Given as goal

-- the sum so far
abbrev pub invariant-loop-entry : goal.invariant-loop-entry
invariant-loop-entry g l = record {
  sum : l.sum ≡ allowed_to (take l.entry-index l.entries);
  small : l.sum ≤ 1000000 * l.entry-index;
}
