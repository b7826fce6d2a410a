-- What string does.
use Rattle.std.specs.Prelude.{ℕ, List, [], ◌∷◌, codes, Option, Some, None}
use Rattle.acts.specs.Flaw as flaw
use Rattle.names.specs.Tables.{Table, found}
use Rattle.pure.specs.declared.string.Subcommand.{Subcommand}
use Rattle.pure.specs.declared.string.Subcommand.TheVariants as subcommand
use Rattle.meanings.specs.Meaning.{Meaning, Raises}
use Rattle.pure.specs.Strings.Case.{tolower, toupper}
use Rattle.pure.specs.Strings.Compare.{equal, compare}
use Rattle.pure.specs.Strings.Index.{index}
use Rattle.pure.specs.Strings.Length.{length}
use Rattle.pure.specs.Strings.Match.{matches}
use Rattle.pure.specs.Strings.Range.{range}
use Rattle.pure.specs.Strings.Search.{first, last}
use Rattle.pure.specs.Strings.Trimming.{trimmed}
use Rattle.pure.specs.Trim.{trim, trim_left, trim_right}
pub mod Case
pub mod Compare
pub mod Index
pub mod Length
pub mod Match
pub mod Range
pub mod Search
pub mod Trimming

-- the names of the subcommands (string(n))
abbrev pub subcommands : Table Subcommand
subcommands =
    (codes "length", subcommand.Length)
    ∷ (codes "index", subcommand.Index)
    ∷ (codes "range", subcommand.Range)
    ∷ (codes "equal", subcommand.Equal)
    ∷ (codes "compare", subcommand.Compare)
    ∷ (codes "match", subcommand.Match)
    ∷ (codes "tolower", subcommand.ToLower)
    ∷ (codes "toupper", subcommand.ToUpper)
    ∷ (codes "trim", subcommand.Trim)
    ∷ (codes "trimleft", subcommand.TrimLeft)
    ∷ (codes "trimright", subcommand.TrimRight)
    ∷ (codes "first", subcommand.First)
    ∷ (codes "last", subcommand.Last)
    ∷ []

-- the subcommand of a name
abbrev pub named : List ℕ → Option Subcommand
named name = found subcommands name

-- what a subcommand does with the words after its name (string(n))
abbrev pub does : Subcommand → List (List ℕ) → Meaning
does subcommand.Length words = length words
does subcommand.Index words = index words
does subcommand.Range words = range words
does subcommand.Equal words = equal words
does subcommand.Compare words = compare words
does subcommand.Match words = matches words
does subcommand.ToLower words = tolower words
does subcommand.ToUpper words = toupper words
does subcommand.Trim words = trimmed trim words
does subcommand.TrimLeft words = trimmed trim_left words
does subcommand.TrimRight words = trimmed trim_right words
does subcommand.First words = first words
does subcommand.Last words = last words

-- the meaning of the subcommand that a name has; a name without a subcommand is the error
-- (string(n))
abbrev pub called : Option Subcommand → List ℕ → List (List ℕ) → Meaning
called (Some found) name words = does found words
called None name words = Raises (flaw.BadArgument name (codes "string"))

-- string subcommand ..: the name is examined before the number of the words after it (string(n))
abbrev pub string : List (List ℕ) → Meaning
string [] = Raises (flaw.WrongArgs (codes "string"))
string (name ∷ words) = called (named name) name words
