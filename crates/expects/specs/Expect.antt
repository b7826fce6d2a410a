-- What expect, expect_before and expect_after do.
use Rattle.std.specs.Prelude.{ℕ, List, [], ◌∷◌, codes, Option, Some, None, Ok, Err, if◌then◌else◌}
use Rattle.state.specs.Prelude.{Id, Reads, Course, gives, raises, TurnTree, Status, lines}
use Rattle.acts.specs.Flaw as flaw
use Rattle.acts.specs.Id.{id_text}
use Rattle.code.specs.Argument.{is_braced}
use Rattle.choices.specs.Branches.{Branches}
use Rattle.choices.specs.Channels.{named}
use Rattle.readings.specs.Reads as misread
use Rattle.readings.specs.Reads.{Place, Outcome, place}
use Rattle.dialog.specs.Standing.{all_of, put_at}
use Rattle.choices.specs.declared.choice.Trigger.TheVariants as after
use Rattle.dialog.specs.declared.standing.Side.{Side}
use Rattle.expects.specs.Words as form
use Rattle.expects.specs.Words.{Form, Waits, Stands, stands}
use Rattle.plan.specs.Plan.{goes}
use Rattle.state.specs.Faults.{flaw_of_fault}
use Rattle.state.specs.Piece.{ArgumentText, ArgumentTree, BranchText, Turn}
use Rattle.state.specs.Variables.{consulted}
use Rattle.tclparse.specs.Fault.{Fault}
use Rattle.tclparse.specs.Tree as tree
use Rattle.state.specs.Words.{words}

-- the open id that a variable names, where it is set
abbrev pub open_by : Option (List ℕ) → Status → Option Id
open_by None s = None
open_by (Some text) s = named (lines s) text

-- what the variable spawn_id holds (expect(1), spawn)
abbrev pub id_named : Status → Option (List ℕ)
id_named s = consulted s.scopes (codes "spawn_id")

-- where the words of one of the commands are read
abbrev pub place_in : Form → Status → Place
place_in form s = place (lines s) (open_by (id_named s) s) (stands form)

-- the script's error where words give no branches (expect(1), expect)
abbrev pub told : misread.Flaw → Status → flaw.Flaw
told (misread.NotIds text) s = flaw.NotOpen (Some text)
told (misread.NotOpen id) s = flaw.NotOpen (Some (id_text id.0))
told misread.NoneInForce s = flaw.NotOpen (id_named s)
told misread.NoPattern s = flaw.MissingWord
told misread.RegexNotHere s = flaw.RegexNotHere
told (misread.BadFlag word) s = flaw.BadFlag word
told misread.TooLong s = flaw.PatternTooLong

-- the first turn of an expect: its own branches among those that stand (expect(1), expect)
abbrev pub first_turn : Branches → Status → TurnTree
first_turn b s = record {
  effective = all_of s.ids.standing b;
  seconds = b.timeout;
  trigger = after.Entry;
  clock = None;
}

-- branches stand from now on (expect(1), expect_before and expect_after)
abbrev pub put : Side → Branches → Status → Status
put side b s = record s { ids = record s.ids { standing = put_at side b s.ids.standing } }

-- expect begins its first turn, the others are over at once (expect(1), expect and expect_before)
abbrev pub on_branches : Form → Branches → ℕ → Status → Course
on_branches Waits b levels s = goes (Turn (first_turn b s) levels) s
on_branches (Stands side) b levels s = gives [] (put side b s)

-- what follows the outcome of words: branches, or the error that comes first in them (expect(1),
-- expect)
abbrev pub on_read : Form → ℕ → Status → Outcome → Course
on_read form levels s (Ok b) = on_branches form b levels s
on_read form levels s (Err why) = raises (told why s) s

-- the words of one of the commands (expect(1), expect)
abbrev pub by_words : Form → ℕ → Status → List (List ℕ) → Course
by_words form levels s ws = Reads (BranchText (place_in form s) ws) (on_read form levels s)

-- the same of the command that has this name; another name has none (expect(1), expect)
abbrev pub of_form : Option Form → ℕ → Status → List (List ℕ) → Course
of_form None levels s ws = gives [] s
of_form (Some form) levels s ws = by_words form levels s ws

-- the name of one of the commands, and then the words of an argument in braces of it (expect(1),
-- expect)
abbrev pub by_name : ℕ → Status → List (List ℕ) → Course
by_name levels s [] = gives [] s
by_name levels s (name ∷ ws) = of_form (form.named name) levels s ws

-- the words of an argument in braces are substituted as those of a command, unless its text has a
-- fault (expect(1), expect)
abbrev pub on_words : Form → ℕ → Status → tree.Words → Option Fault → Course
on_words form levels s ws None = words levels ws [] s (by_words form levels)
on_words form levels s ws (Some fault) = raises (flaw_of_fault fault) s

-- an argument in braces (expect(1), expect)
abbrev pub by_argument : Form → ℕ → List ℕ → Status → Course
by_argument form levels text s =
    Reads (ArgumentText text) (λ (t : ArgumentTree). on_words form levels s t.words t.fault)

-- one of the three commands; a single argument that begins with a newline is one in braces
-- (expect(1), expect)
abbrev pub expect : Form → ℕ → List (List ℕ) → Status → Course
expect form levels (text ∷ []) s =
    if is_braced text then by_argument form levels text s
    else by_words form levels s (text ∷ [])
expect form levels args s = by_words form levels s args
