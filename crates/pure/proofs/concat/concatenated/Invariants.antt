use Rattle.std.proofs.Common.{◌≡◌, ◌++◌, ◌∷◌, [], drop}
use Rattle.pure.specs.Concat.{kept}
use Rattle.tcltext.specs.Joined.{separated, joined}
use Rattle.pure.proofs.concat.concatenated.Given as goal

abbrev pub invariant-loop-word : goal.invariant-loop-word
invariant-loop-word g l =
    l.text.items ++ separated l.first (32 ∷ []) (kept (drop l.word-index l.words))
    ≡ joined (32 ∷ []) (kept l.words)
