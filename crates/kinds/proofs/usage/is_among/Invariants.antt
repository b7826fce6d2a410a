use Rattle.std.proofs.Common.{◌≡◌, drop, map}
use Rattle.kinds.specs.Usage.{is_among}
use Rattle.kinds.proofs.usage.is_among.Given as goal

-- none of the flags so far is the word
abbrev pub invariant-loop-flag : goal.invariant-loop-flag
invariant-loop-flag l =
    is_among (map (λ f. f.now) (drop l.flag-index l.flags)) l.word
    ≡ is_among (map (λ f. f.now) l.flags) l.word
