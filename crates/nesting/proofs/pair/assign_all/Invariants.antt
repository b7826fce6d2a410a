use Rattle.std.proofs.Common.{◌≡◌, drop}
use Rattle.nesting.specs.Foreach.{dealt}
use Rattle.nesting.proofs.Assigning.{Leaves}
use Rattle.state.specs.Prelude.{Status, FitsState}
use Rattle.nesting.proofs.pair.assign_all.Given as goal

abbrev pub invariant-loop-name : goal.invariant-loop-name
invariant-loop-name g l = record {
  leaves : (s : Status) → FitsState l.fn.state s →
      Leaves l.state s (dealt l.names l.fn.elements.items)
      (dealt (drop l.name-index l.names) l.elements.items);
  elements : l.elements.items ≡ drop l.name-index l.fn.elements.items;
  left : l.state.left ≡ l.fn.state.left;
}
