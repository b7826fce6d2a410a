-- What string match does.
use Rattle.std.specs.Prelude.{ℕ, List, [], ◌∷◌, length, nat_lt, codes, if◌then◌else◌}
use Rattle.acts.specs.Flaw as flaw
use Rattle.meanings.specs.Meaning.{Meaning, Gives, Raises, Matches, truth}
use Rattle.patterns.specs.Glob.{plain}

-- whether a pattern matches a whole text; a pattern has at most 1,000,000 bytes (string(n), match;
-- the limit is this project's own rule)
abbrev pub takes : List ℕ → List ℕ → Meaning
takes pattern text =
    if nat_lt 1000000 (length pattern) then Raises flaw.PatternTooLong
    else Matches (plain pattern).items text (λ it_does. Gives (truth it_does))

-- string match pattern s (string(n), match)
abbrev pub matches : List (List ℕ) → Meaning
matches (pattern ∷ s ∷ []) = takes pattern s
matches _ = Raises (flaw.WrongArgs (codes "string"))
