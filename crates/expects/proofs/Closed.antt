-- A property that holds of each turn, and is closed under how courses are put together, holds of
-- each expect.
use Rattle.std.proofs.Common.{ℕ, Bool, true, false, List, [], ◌∷◌, Option, Some, None, Ok, Err, if◌then◌else◌}
use Rattle.choices.specs.Branches.{Branches}
use Rattle.readings.specs.Reads.{Outcome as Said}
use Rattle.dialog.specs.Standing.{put_at}
use Rattle.state.proofs.Closed.{Closed, Turns, raises_closed}
use Rattle.state.specs.Prelude.{Course, gives, Gives, Status}
use Rattle.state.specs.Faults.{flaw_of_fault}
use Rattle.code.specs.Argument.{is_braced}
use Rattle.state.specs.Piece.{ArgumentText, ArgumentTree, BranchText}
use Rattle.tclparse.specs.Fault.{Fault}
use Rattle.tclparse.specs.Tree as tree
use Rattle.state.proofs.Words.{words_closed}
use Rattle.expects.specs.Expect.{by_argument, by_words, expect, first_turn, on_branches, on_read, on_words, place_in, put, told}
use Rattle.expects.specs.Words.{Form, Waits, Stands}

module _ (P : Status → Course → Type 0) (closed : Closed P) (turns : Turns P) where
  branches_closed : (form : Form) (b : Branches) (levels : ℕ) (s : Status) →
      P s (on_branches form b levels s)
  branches_closed Waits b levels s = turns (first_turn b s) levels s
  branches_closed (Stands side) b levels s =
      closed.standing (put_at side b s.ids.standing) s (gives [] (put side b s))
      (closed.over (put side b s) (Gives []))

  read_closed : (form : Form) (levels : ℕ) (s : Status) (said : Said) →
      P s (on_read form levels s said)
  read_closed form levels s (Ok b) = branches_closed form b levels s
  read_closed form levels s (Err why) = raises_closed P closed (told why s) s

  -- words that are all there
  pub by_words_closed : (form : Form) (levels : ℕ) (s : Status) (ws : List (List ℕ)) →
      P s (by_words form levels s ws)
  by_words_closed form levels s ws =
      closed.reading (BranchText (place_in form s) ws) s (on_read form levels s)
      (read_closed form levels s)

  words_or_fault : (form : Form) (levels : ℕ) (s : Status) (ws : tree.Words)
      (fault : Option Fault) → P s (on_words form levels s ws fault)
  words_or_fault form levels s ws None =
      words_closed P closed levels ws [] s (by_words form levels) (by_words_closed form levels)
  words_or_fault form levels s ws (Some fault) = raises_closed P closed (flaw_of_fault fault) s

  argument_closed : (form : Form) (levels : ℕ) (text : List ℕ) (s : Status) →
      P s (by_argument form levels text s)
  argument_closed form levels text s =
      closed.reading (ArgumentText text) s
      (λ (t : ArgumentTree). on_words form levels s t.words t.fault)
      (λ (t : ArgumentTree). words_or_fault form levels s t.words t.fault)

  one_closed : (form : Form) (levels : ℕ) (text : List ℕ) (s : Status) (b : Bool) →
      P s (if b then by_argument form levels text s
      else by_words form levels s (text ∷ []))
  one_closed form levels text s true = argument_closed form levels text s
  one_closed form levels text s false = by_words_closed form levels s (text ∷ [])

  -- each of the three commands
  pub expect_closed : (form : Form) (levels : ℕ) (args : List (List ℕ)) (s : Status) →
      P s (expect form levels args s)
  expect_closed form levels [] s = by_words_closed form levels s []
  expect_closed form levels (text ∷ []) s = one_closed form levels text s (is_braced text)
  expect_closed form levels (a ∷ b ∷ more) s = by_words_closed form levels s (a ∷ b ∷ more)
