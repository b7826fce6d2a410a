use Rattle.std.proofs.Common.{◌≡◌, ◌≤◌, ◌+◌, ◌++◌, ℕ, List, length}
use Rattle.tcltext.specs.Elements.{IsSpelled}
use Rattle.tcltext.specs.Seen.{style_of}
use Rattle.tcltext.proofs.list.element.read_spelled.Given as goal

-- Whatever bytes the unread text spells, the whole text spells the bytes read so far before them.
abbrev pub invariant-loop-byte : goal.invariant-loop-byte
invariant-loop-byte g l = record {
  spelled : (t z : List ℕ) → IsSpelled (style_of l.style) t l.rest z →
      IsSpelled (style_of l.style) (l.bytes.items ++ t) l.text z;
  shorter : length l.bytes.items + length l.rest ≤ length l.text;
  moves : length l.bytes.items ≡ 0 → l.rest ≡ l.text;
}

abbrev pub decreases-loop-byte : goal.decreases-loop-byte
decreases-loop-byte g l = length l.rest
