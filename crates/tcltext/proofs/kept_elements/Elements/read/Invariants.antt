use Rattle.std.proofs.Common.{◌≡◌, ◌<◌, false, ◌++◌, ℕ, List, Option, length}
use Rattle.tcltext.specs.Flaw.{Flaw}
use Rattle.tcltext.specs.White.{skip_white, ends_element}
use Rattle.tcltext.specs.Elements.{IsElements}
use Rattle.tcltext.proofs.kept_elements.Elements.read.Given as goal

-- Whatever elements the unread text has, the whole text has the elements read so far before them.
abbrev pub invariant-loop-rest : goal.invariant-loop-rest
invariant-loop-rest g l = record {
  list : (v : List (List ℕ)) (o : Option Flaw) → IsElements v o l.rest →
      IsElements (l.items.items ++ v) o l.text;
  skipped : skip_white l.rest ≡ l.rest;
  begins : 0 < length l.rest → ends_element l.rest ≡ false;
}

abbrev pub decreases-loop-rest : goal.decreases-loop-rest
decreases-loop-rest g l = length l.rest
