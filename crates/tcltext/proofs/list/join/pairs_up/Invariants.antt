use Rattle.std.proofs.Common.{◌≡◌, ◌≤◌, drop}
use Rattle.tcltext.specs.Canonical.{pairs_up}
use Rattle.tcltext.proofs.list.join.pairs_up.Given as goal

abbrev pub invariant-loop-c : goal.invariant-loop-c
invariant-loop-c l = record {
  pairs : pairs_up l.«open» (drop l.c-index l.element) ≡ pairs_up 0 l.element;
  fewer : l.«open» ≤ l.c-index;
}
