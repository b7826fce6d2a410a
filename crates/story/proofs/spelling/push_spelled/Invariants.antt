use Rattle.std.proofs.Common.{◌≡◌, ◌∷◌, ◌++◌, [], drop, flat_map}
use Rattle.story.specs.Spelling.{spelled, spelled_byte}
use Rattle.story.proofs.spelling.push_spelled.Given as goal

abbrev pub invariant-loop-byte : goal.invariant-loop-byte
invariant-loop-byte g l =
    l.out.items ++ (flat_map spelled_byte (drop l.byte-index l.text) ++ 34 ∷ [])
    ≡ l.fn.out.items ++ spelled l.text
