-- The words of a command, or of an argument in braces: the next word, or what they begin.
use Rattle.std.proofs.Common.{◌≡◌, ◌∙◌, ℕ, suc, ◌+◌, ◌≤◌, List, [], ◌∷◌, ◌++◌, Bool, true, false, drop, refl, sym, ap, subst, length, arith}
use Rattle.std.specs.Prelude.{slice_get, reverse}
use Rattle.code.specs.Code.{At, WordsAt, begins, begins_counted, says, one, counts, spread}
use Rattle.code.specs.declared.instruction.Instruction.{Instruction}
use Rattle.code.specs.declared.instruction.Instruction.TheVariants as i
use Rattle.expects.specs.Expect.{by_name}
use Rattle.plan.specs.Plan.{and_then, onward}
use Rattle.runs.specs.Commands.{command}
use Rattle.state.specs.Prelude.{Dialogue, Outcome, Status}
use Rattle.steps.specs.Follows.{Follows}
use Rattle.steps.specs.Goes.{here}
use Rattle.steps.specs.Layout.{CountIs, FramesAt}
use Rattle.steps.specs.Machine.{beginning, function_in, machine, performing, saying, starting}
use Rattle.steps.specs.Moves.{lowest}
use Rattle.steps.specs.Places.{Gathers, Frame, beneath, brackets, handlers_beneath, left_of, onward_of, marks_beneath, spot_at}
use Rattle.steps.specs.Spot.{Begins, Says, Went}
use Rattle.steps.specs.Word.{Plain, Expands}
use Rattle.steps.proofs.Leads.Functions.{performed_leads, with_all}
use Rattle.steps.proofs.Leads.Operands.{begins_with, lowest_below, words_above, words_left}
use Rattle.steps.proofs.Leads.Parts.{start_leads}
use Rattle.steps.proofs.Leads.Resumed.{outcome_leads}
use Rattle.steps.proofs.Leads.Standing.{by, stands}
use Rattle.tclparse.specs.Tree.{Words, no_words}

module _ {A X : Type 0} (code : List (Instruction A)) (last : Status → Outcome → Dialogue X) where
  -- one more word
  one_more : (counted : Bool) (count : ℕ) (before : List (List ℕ)) →
      CountIs code counted count (length before) →
      CountIs code counted (count + 1) (suc (length before))
  one_more false count before is = omega (arith, is)
  one_more true count before is = tt

  -- a command, or an argument in braces, leads on with its next word
  abbrev pub WordsLead : ℕ → ℕ → Bool → Bool → List (List ℕ) → Words → List Frame → Status → Type 0
  WordsLead place levels braced counted before rest frames s =
      Follows code last
      (machine (slice_get code place) (spot_at place levels (Gathers braced counted before rest)
      frames) s)
      (left_of last levels (Gathers braced counted before rest) frames s)

  -- a command begins by its words
  begin_leads : (levels place n : ℕ) (counted : Bool) (before : List (List ℕ)) (fs : List Frame)
      (s : Status) → n ≡ length (beneath fs) → FramesAt code (place + 1) fs →
      levels + brackets fs ≤ 255 →
      Follows code last
      (beginning n (record {
        place = place + 1;
        operands = before ++ beneath fs;
        marks = marks_beneath fs;
        levels = levels;
        handlers = handlers_beneath levels fs;
      }) s)
      (and_then (command levels s (reverse before)) (onward (onward_of last levels fs)))
  begin_leads levels place n counted before fs s is behind fits =
      subst (λ did. Follows code last did
      (and_then (command levels s (reverse before)) (onward (onward_of last levels fs))))
      (sym (begins_with (λ ws at. Begins ws at s) n before (beneath fs) (place + 1)
      (marks_beneath fs) levels (handlers_beneath levels fs) is))
      (record {
        next = onward_of last levels fs;
        goes = here;
        resumes = λ t outcome. outcome_leads code last (place + 1) levels fs t behind fits outcome;
      })

  -- the branches of a command are given by its name and by words
  say_leads : (levels place n : ℕ) (before : List (List ℕ)) (fs : List Frame) (s : Status) →
      n ≡ length (beneath fs) → FramesAt code (place + 1) fs → levels + brackets fs ≤ 255 →
      Follows code last
      (saying n (record {
        place = place + 1;
        operands = before ++ beneath fs;
        marks = marks_beneath fs;
        levels = levels;
        handlers = handlers_beneath levels fs;
      }) s)
      (and_then (by_name levels s (reverse before)) (onward (onward_of last levels fs)))
  say_leads levels place n before fs s is behind fits =
      subst (λ did. Follows code last did
      (and_then (by_name levels s (reverse before)) (onward (onward_of last levels fs))))
      (sym (begins_with (λ ws at. Says ws at s) n before (beneath fs) (place + 1)
      (marks_beneath fs) levels (handlers_beneath levels fs) is))
      (record {
        next = onward_of last levels fs;
        goes = here;
        resumes = λ t outcome. outcome_leads code last (place + 1) levels fs t behind fits outcome;
      })

  -- or it is a function of its words
  start_command : (levels place n : ℕ) (before : List (List ℕ)) (fs : List Frame) (s : Status) →
      n ≡ length (beneath fs) → FramesAt code (place + 1) fs → levels + brackets fs ≤ 255 →
      Follows code last
      (starting n (record {
        place = place + 1;
        operands = before ++ beneath fs;
        marks = marks_beneath fs;
        levels = levels;
        handlers = handlers_beneath levels fs;
      }) s)
      (and_then (command levels s (reverse before)) (onward (onward_of last levels fs)))
  start_command levels place n before fs s is behind fits =
      let operands = before ++ beneath fs in
      subst (λ words. Follows code last
      (performing (function_in words s.procedures) words n
      (with_all code last levels (place + 1) fs s behind fits operands) s)
      (and_then (command levels s (reverse before)) (onward (onward_of last levels fs))))
      (sym (ap (λ m. drop m (reverse operands)) is ∙ words_above before (beneath fs)))
      (performed_leads code last levels (place + 1) fs s behind fits operands n
      (ap (λ m. lowest m operands) is ∙ lowest_below before (beneath fs)) (reverse before)
      (begin_leads levels place n false before fs s is behind fits))

  -- from here on the words are counted
  count_leads : (braced : Bool) (levels place count other end : ℕ) (before : List (List ℕ))
      (rest : Words) (fs : List Frame) (s : Status) → count ≡ length before →
      At code place (i.Count count) → WordsAt code braced true other (place + 1) rest end →
      FramesAt code end fs → levels + brackets fs ≤ 255 →
      WordsLead place levels braced false before rest fs s
  count_leads braced levels place count other end before rest fs s is at words_at behind fits =
      by code last (i.Count count) (spot_at place levels (Gathers braced false before rest) fs) s _
      at
      (subst (λ n. Follows code last
      (Went (record {
        place = place + 1;
        operands = before ++ beneath fs;
        marks = n ∷ marks_beneath fs;
        levels = levels;
        handlers = handlers_beneath levels fs;
      }) s)
      (left_of last levels (Gathers braced false before rest) fs s))
      (sym (words_left count before (beneath fs) is))
      (stands code last (place + 1) levels (Gathers braced true before rest) fs end s
      (other, tt, words_at) behind fits))

  -- each word
  pub words_lead : (levels : ℕ) (before : List (List ℕ)) (fs : List Frame) (s : Status)
      (braced counted : Bool) (count place : ℕ) (rest : Words) (end : ℕ) →
      CountIs code counted count (length before) →
      WordsAt code braced counted count place rest end →
      FramesAt code end fs → levels + brackets fs ≤ 255 →
      WordsLead place levels braced counted before rest fs s
  words_lead levels before fs s braced counted count place rest end is (begins at) behind fits =
      by code last (i.Command count) (spot_at place levels (Gathers false false before no_words) fs)
      s _ at
      (start_command levels place _ before fs s (words_left count before (beneath fs) is) behind
      fits)
  words_lead levels before fs s braced counted count place rest end is (begins_counted at) behind
      fits =
      by code last i.Counted (spot_at place levels (Gathers false true before no_words) fs) s _ at
      (begin_leads levels place _ true before fs s refl behind fits)
  words_lead levels before fs s braced counted count place rest end is (says at) behind fits =
      by code last i.Say (spot_at place levels (Gathers true true before no_words) fs) s _ at
      (say_leads levels place _ before fs s refl behind fits)
  words_lead levels before fs s braced counted count place rest end is (one {braced = b} {counted =
      c} {mid = mid} {ps = ps} {ws = ws} parts_at words_at) behind fits =
      start_leads code last levels end [] (Plain b c before ws) fs s place ps mid parts_at
      (record {
        stop = mid;
        around = refl;
        word_at = (
          count + 1,
          one_more c count before is,
          words_at,
        );
      })
      behind fits
  words_lead levels before fs s braced counted count place rest end is (counts {braced = b} {other =
      other} at words_at) behind fits =
      count_leads b levels place count other end before rest fs s is at words_at behind fits
  words_lead levels before fs s braced counted count place rest end is (spread {braced = b} {mid =
      mid} {ps = ps} {ws = ws} parts_at at words_at) behind fits =
      start_leads code last levels end [] (Expands b before ws) fs s place ps mid parts_at
      (record { stop = mid; around = refl; word_at = (at, (count + 1, words_at)) })
      behind fits
