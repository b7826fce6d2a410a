use Rattle.std.proofs.Common.{◌≡◌, ◌<◌, ◌≤◌, ◌+◌, false, ℕ, List, length}
use Rattle.tcltext.specs.White.{skip_white, ends_element}
use Rattle.tcltext.proofs.Elements.{ListSoFar}
use Rattle.tcltext.proofs.list.walk.count.Given as goal

-- The elements read so far stand before whatever elements the unread text has.
abbrev pub invariant-loop-rest : goal.invariant-loop-rest
invariant-loop-rest g l = record {
  read : (es : List (List ℕ)) × ListSoFar l.text l.rest es × (l.count ≡ length es);
  fewer : l.count + length l.rest ≤ length l.text;
  skipped : skip_white l.rest ≡ l.rest;
  begins : 0 < length l.rest → ends_element l.rest ≡ false;
}

abbrev pub decreases-loop-rest : goal.decreases-loop-rest
decreases-loop-rest g l = length l.rest
