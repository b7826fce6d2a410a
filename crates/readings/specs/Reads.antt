-- Which branches the words of an expect say, or which error comes first in them.
use Rattle.std.specs.Prelude.{◌≡◌, ◌≢◌, ◌⊎◌, ℕ, ◌<◌, ◌^◌, ◌||◌, nat_lt, Bool, true, false, IsTrue, List, [], ◌∷◌, ◌++◌, length, map, codes, ℤ, Option, Some, None, is_some, Result, Ok, Err, if◌then◌else◌}
use Rattle.std.specs.List.{list_all}
use Rattle.acts.specs.Id.{id_text}
use Rattle.acts.specs.declared.id.Id.{Id}
use Rattle.tcltext.specs.Elements.{IsList}
use Rattle.tcltext.specs.Numeral.{IsNumeral, IsInRange}
use Rattle.patterns.specs.Glob.{glob, exact}
use Rattle.patterns.specs.Item.{Reading}
use Rattle.choices.specs.Branches.{Awaited, Sought, Branch, Pair, pair, Branches, branches}
use Rattle.choices.specs.Lines.{Line, line_of}
use Rattle.searches.specs.Lead.{sought_by}
use Rattle.readings.specs.Parts.{Glob, Exact, Wanted, Seeks, Names, Part, Ids, Seconds, Stays, TellsPlaces, Folds, Awaits, Lacks, Regex, Bad, parts}
use Rattle.choices.specs.declared.branch.Flags.{Flags}

-- why words give no branches: a text is no list of ids, or an empty one; an id is not open; none is
-- in force that is open; a flag has no word or no branch after it; -re; a word that is no flag; a
-- pattern that is too long (expect(1), expect)
pub data Flaw : Type 0 where
  NotIds : (text : List ℕ) → Flaw
  NotOpen : (id : Id) → Flaw
  NoneInForce : Flaw
  NoPattern : Flaw
  RegexNotHere : Flaw
  BadFlag : (word : List ℕ) → Flaw
  TooLong : Flaw

-- the outcome of words: branches, or what is wrong with them
abbrev pub Outcome : Type 0
Outcome = Result Branches Flaw

-- the place where words are read: the lines of the open ids, the id in force, if it is open, and
-- whether the words are those of expect_before or expect_after, whose pairs stand
pub record Place : Type 0 where
  pub lines : List Line
  pub current : Option Id
  pub standing : Bool

-- a place by its parts
abbrev pub place : List Line → Option Id → Bool → Place
place lines current standing = record { lines = lines; current = current; standing = standing }

-- the id is open
abbrev pub is_open_in : List Line → Id → Bool
is_open_in lines i = is_some (line_of lines i)

-- no flag stands before the next branch
abbrev pub no_flags : Flags
no_flags = record { stays = false; tells_places = false; folds = false }

-- a flag stands before the next branch
abbrev pub has_flags : Flags → Bool
has_flags flags = flags.stays || (flags.tells_places || flags.folds)

-- each of the ids has a number below 2^64
abbrev pub AreSmall : List Id → Type 0
AreSmall [] = Unit {0}
AreSmall (i ∷ is) = (i.0 < 2 ^ 64) × AreSmall is

-- the words spell these ids, at least one
pub record AreSpelled (ids : List Id) (words : List (List ℕ)) : Type 0 where
  pub texts : map (λ i. id_text i.0) ids ≡ words
  pub small : AreSmall ids
  pub some : ids ≢ []

-- the text is a list of these ids, at least one (expect(1), expect -i)
pub record IsIds (ids : List Id) (text : List ℕ) : Type 0 where
  pub words : List (List ℕ)
  pub list : IsList words text
  pub spelled : AreSpelled ids words

-- the text is a list of these ids, and all are open
pub record HasIds (lines : List Line) (text : List ℕ) (ids : List Id) : Type 0 where
  pub is_ids : IsIds ids text
  pub are_open : IsTrue (list_all (is_open_in lines) ids)

-- the first of these ids that is not open
abbrev pub first_shut : List Line → List Id → Option Id
first_shut lines [] = None
first_shut lines (i ∷ is) = if is_open_in lines i then first_shut lines is else Some i

-- one of the ids is not open, and this is the first
pub record IsShut (lines : List Line) (text : List ℕ) (flaw : Flaw) : Type 0 where
  pub ids : List Id
  pub is_ids : IsIds ids text
  pub first : Id
  pub is_first : first_shut lines ids ≡ Some first
  pub flaw_is : flaw ≡ NotOpen first

-- the text is no list of ids
pub record IsNoList (text : List ℕ) (flaw : Flaw) : Type 0 where
  pub no_ids : (ids : List Id) → ¬ IsIds ids text
  pub flaw_is : flaw ≡ NotIds text

-- the text is no list of open ids (expect(1), expect -i; the order is this project's own rule)
abbrev pub MissesIds : List Line → List ℕ → Flaw → Type 0
MissesIds lines text flaw = IsShut lines text flaw ⊎ IsNoList text flaw

-- the text is this number within 64 bits (expect(1), expect -timeout)
abbrev pub IsSeconds : List ℕ → ℤ → Type 0
IsSeconds text n = IsNumeral n text × IsInRange n

-- the later of two settings, if there is one
abbrev pub later : Option ℤ → Option ℤ → Option ℤ
later first None = first
later first (Some n) = Some n

-- what some words say, together with what the words after them say
abbrev pub beside : Branches → Branches → Branches
beside b rest =
    branches (b.named ++ rest.named) (b.pairs ++ rest.pairs) (later b.timeout rest.timeout)

-- the outcome of later words, with what earlier words say in front of it
abbrev pub in_front : Branches → Outcome → Outcome
in_front b (Ok rest) = Ok (beside b rest)
in_front b (Err flaw) = Err flaw

-- the words end: no flag may stand before a branch that doesn't come (expect(1), expect)
abbrev pub at_end : Flags → Outcome
at_end flags = if has_flags flags then Err NoPattern else Ok (branches [] [] None)

-- a pattern that is sought has at most 1,000,000 bytes (this project's own rule)
abbrev pub is_too_long : Wanted → Bool
is_too_long (Seeks style text) = nat_lt 1000000 (length text)
is_too_long (Names keyword) = false

-- what a branch waits for; a keyword is the same where letters are folded (expect(1), -gl, -ex and
-- -nocase)
abbrev pub awaited_by : Bool → Wanted → Awaited
awaited_by folds (Seeks Glob text) = Sought (sought_by folds (glob text))
awaited_by folds (Seeks Exact text) = Sought (sought_by folds (exact text))
awaited_by folds (Names keyword) = keyword

-- the branch of these flags and this body
abbrev pub branch_by : Flags → Wanted → List ℕ → Branch
branch_by flags wanted body =
    record { awaited = awaited_by flags.folds wanted; flags = flags; body = body }

-- the one id, if there is one
abbrev pub alone : Option Id → Option (List Id)
alone None = None
alone (Some i) = Some (i ∷ [])

-- the ids of a branch: those of the last -i, else the one in force (expect(1), expect -i)
abbrev pub ids_for : Option Id → Option (List Id) → Option (List Id)
ids_for current None = alone current
ids_for current (Some ids) = Some ids

-- the ids that a branch itself names: the one in force, where no -i stands before it
abbrev pub named_by : Option Id → Option (List Id) → List Id
named_by None None = []
named_by (Some i) None = i ∷ []
named_by current (Some ids) = []

-- what is wrong with a branch: no open id is in force, else its pattern is too long
-- (this project's own rule)
abbrev pub branch_flaw : Option (List Id) → Wanted → Option Flaw
branch_flaw None wanted = Some NoneInForce
branch_flaw (Some ids) wanted = if is_too_long wanted then Some TooLong else None

-- a pair for each of the ids (expect(1), expect -i)
abbrev pub pairs_of : Option (List Id) → Branch → List Pair
pairs_of None branch = []
pairs_of (Some ids) branch = map (λ i. pair i branch) ids

-- what a branch says by itself
abbrev pub branch_at : Option Id → Option (List Id) → Flags → Wanted → List ℕ → Branches
branch_at current ids flags wanted body = branches (named_by current ids)
    (pairs_of (ids_for current ids) (branch_by flags wanted body)) None

-- the outcome of parts at a place, with the ids of the last -i and the flags before the next branch
-- (expect(1), expect)
abbrev pub Reads : Place → Option (List Id) → Flags → List Part → Outcome → Type 0
Reads at ids flags [] out = out ≡ at_end flags
Reads at ids flags (Ids list ∷ more) out =
    ((named : List Id) × (rest : Outcome) × HasIds at.lines list named
    × Reads at (Some named) flags more rest × (out ≡ in_front (branches named [] None) rest))
    ⊎ ((flaw : Flaw) × MissesIds at.lines list flaw × (out ≡ Err flaw))
Reads at ids flags (Seconds text ∷ more) out =
    ((n : ℤ) × (rest : Outcome) × IsSeconds text n
    × Reads at ids flags more rest × (out ≡ in_front (branches [] [] (Some n)) rest))
    ⊎ (((n : ℤ) → ¬ IsSeconds text n) × (out ≡ Err (BadFlag (codes "-timeout"))))
Reads at ids flags (Stays ∷ more) out = Reads at ids (record flags { stays = true }) more out
Reads at ids flags (TellsPlaces ∷ more) out =
    Reads at ids (record flags { tells_places = true }) more out
Reads at ids flags (Folds ∷ more) out = Reads at ids (record flags { folds = true }) more out
Reads at ids flags (Awaits wanted body ∷ more) out =
    ((rest : Outcome) × (branch_flaw (ids_for at.current ids) wanted ≡ None)
    × Reads at ids no_flags more rest
    × (out ≡ in_front (branch_at at.current ids flags wanted body) rest))
    ⊎ ((flaw : Flaw) × (branch_flaw (ids_for at.current ids) wanted ≡ Some flaw)
    × (out ≡ Err flaw))
Reads at ids flags (Lacks ∷ more) out = out ≡ Err NoPattern
Reads at ids flags (Regex ∷ more) out = out ≡ Err RegexNotHere
Reads at ids flags (Bad word ∷ more) out = out ≡ Err (BadFlag word)

-- the id in force is named, which must be open (expect(1), expect and expect_before)
abbrev pub with_current : Option Id → Branches → Outcome
with_current None b = Err NoneInForce
with_current (Some i) b = Ok (branches (i ∷ []) b.pairs b.timeout)

-- where words name no ids, they name the one in force
abbrev pub named_or : List Id → Option Id → Branches → Outcome
named_or [] current b = with_current current b
named_or (i ∷ is) current b = Ok b

-- the same of the outcome of words
abbrev pub named_at : Option Id → Outcome → Outcome
named_at current (Ok b) = named_or b.named current b
named_at current (Err flaw) = Err flaw

-- words have that outcome at a place (expect(1), expect, expect_before and expect_after)
pub record IsRead (at : Place) (words : List (List ℕ)) (out : Outcome) : Type 0 where
  pub said : Outcome
  pub reads : Reads at None no_flags (parts at.standing words) said
  pub named : out ≡ named_at at.current said
