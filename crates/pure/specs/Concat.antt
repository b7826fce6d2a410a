-- What concat does.
use Rattle.std.specs.Prelude.{ℕ, List, map, filter, not, codes}
use Rattle.tcltext.specs.Joined.{joined}
use Rattle.meanings.specs.Meaning.{Meaning, Gives}
use Rattle.pure.specs.Trim.{trim, white}
use Rattle.tcltext.specs.Canonical.{is_empty}

-- the words without white space at their ends, and without those that are empty then (concat(n))
abbrev pub kept : List (List ℕ) → List (List ℕ)
kept words = filter (λ x. not (is_empty x)) (map (trim white) words)

-- the kept words with a blank between them (concat(n))
abbrev pub concatenated : List (List ℕ) → List ℕ
concatenated words = joined (codes " ") (kept words)

-- concat w .. gives that text (concat(n))
abbrev pub concat : List (List ℕ) → Meaning
concat words = Gives (concatenated words)
