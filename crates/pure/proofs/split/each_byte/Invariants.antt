use Rattle.std.proofs.Common.{◌≡◌, ◌++◌, ◌∷◌, [], drop, map}
use Rattle.tcltext.specs.Canonical.{canonical, joined}
use Rattle.pure.proofs.split.each_byte.Given as goal

abbrev pub invariant-loop-byte : goal.invariant-loop-byte
invariant-loop-byte g l =
    l.list.items ++ joined l.first (map (λ b. b ∷ []) (drop l.byte-index l.text))
    ≡ canonical (map (λ b. b ∷ []) l.text)
