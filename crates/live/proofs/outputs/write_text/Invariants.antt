use Rattle.std.proofs.Common.{◌≡◌, ℕ, List, ◌++◌}
use Rattle.std.specs.Io.KnownBytes.{Appends}
use Rattle.live.proofs.outputs.write_text.Given as goal

-- what went out so far is the part of the text before the rest, and nothing was refused
abbrev pub invariant-loop : goal.invariant-loop
invariant-loop g l =
    (sent : List ℕ) × (l.text ≡ sent ++ l.rest) × (l.why ≡ l.initial.why)
    × Appends (g.W.Write.contents l.initial.writer) (g.W.Write.contents l.writer) sent
