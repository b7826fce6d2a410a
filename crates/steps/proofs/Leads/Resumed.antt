-- The outcome of a command, or the error of an instruction: what takes it of all that is open, or
-- the end of the code.
use Rattle.std.proofs.Common.{◌≡◌, ◌∙◌, ℕ, suc, ◌+◌, ◌≤◌, List, [], ◌∷◌, ◌++◌, Option, None, Some, length, refl, sym, subst, arith, if◌then◌else◌}
use Rattle.std.specs.Prelude.{decimal}
use Rattle.std.proofs.lemmas.Bool.{le-leb}
use Rattle.nesting.specs.Catch.{number_of}
use Rattle.code.specs.declared.instruction.Instruction.{Instruction}
use Rattle.state.specs.Prelude.{Again, AgainRunning, Break, Code, Continue, Dialogue, Error, Flaw, Gives, Leaves, LoopTree, Outcome, Return, Status, Stops, text_of}
use Rattle.steps.specs.Each.{Each}
use Rattle.steps.specs.Follows.{Follows, Here, Resumes}
use Rattle.steps.specs.Handling.{fails, handled, led, resumed, way_of}
use Rattle.steps.specs.Layout.{FramesAt}
use Rattle.steps.specs.Moves.{jumping, lowest}
use Rattle.steps.specs.Places.{Has, Finishes, Drops, Stores, Part, Frame, Rest, Bracket, Body, Skip, Alone, Command, For, Turns, Elements, Catches, beneath, brackets, handlers_beneath, marks_beneath, onward_of, part_of, spot_at}
use Rattle.steps.specs.Spot.{Did, Went, Reads, Begins, Says, Runs, Evaluates, Over, Stuck, Handler, Spot}
use Rattle.steps.specs.Word.{Open, is_counted, operands_of}
use Rattle.steps.specs.declared.handler.Covered.{Covered}
use Rattle.steps.specs.declared.handler.Covered.TheVariants as covers
use Rattle.steps.proofs.Leads.Above.{LiesOn, lies_on, lowest_of, mark_above, those, word_above}
use Rattle.steps.proofs.Leads.Forwards.{joined_grows, part_grows, script_grows}
use Rattle.steps.proofs.Leads.Grows.{assigns_grow, done_grows, formula_grows, turns_grow}
use Rattle.steps.proofs.Leads.Silent.{same_goes}
use Rattle.steps.proofs.Leads.Standing.{comes_here, stands_here, stops_pass}

module _ {A X : Type 0} (code : List (Instruction A)) (last : Status → Outcome → Dialogue X) where
  -- a spot with these operands and marks
  abbrev spot_with : ℕ → ℕ → List Handler → List (List ℕ) → List ℕ → Spot
  spot_with place levels handlers operands marks = record {
    place = place;
    operands = operands;
    marks = marks;
    levels = levels;
    handlers = handlers;
  }

  -- the spot below the frames, at this place
  abbrev pub spot_below : ℕ → ℕ → List Frame → Spot
  spot_below place levels fs =
      spot_with place levels (handlers_beneath levels fs) (beneath fs) (marks_beneath fs)

  -- the handler of this, outside of which there are these operands and marks
  abbrev handler_with : Covered → ℕ → ℕ → List (List ℕ) → List ℕ → Handler
  handler_with covered over levels operands marks = record {
    covers = covered;
    over = over;
    operands = length operands;
    marks = length marks;
    levels = levels;
  }

  -- the spot stands before the place where the frames begin, on their operands and marks
  record Within (spot : Spot) (place : ℕ) (below : List (List ℕ)) (under : List ℕ) : Type 0 where
    before : spot.place ≤ place
    operands : LiesOn spot.operands below
    marks : LiesOn spot.marks under

  -- a jump forwards to where these operands and marks are below
  lands : (to levels : ℕ) (handlers : List Handler) (top below : List (List ℕ)) (under : List ℕ)
      (spot : Spot) (s : Status) (p : Dialogue X) → Within spot to below under →
      Here code last (spot_with to levels handlers (top ++ below) under) s p →
      Resumes code last
      (jumping to (spot_with spot.place levels handlers
      (top ++ lowest (length below) spot.operands) (lowest (length under) spot.marks)) s) p
  lands to levels handlers top below under spot s p within at =
      let operands = lowest (length below) spot.operands in
      let marks = lowest (length under) spot.marks in
      subst (λ b. Resumes code last
      (if b then Went (spot_with to levels handlers (top ++ operands) marks) s else Stuck) p)
      (sym (le-leb spot.place to within.before))
      (subst (λ os. Here code last (spot_with to levels handlers (top ++ os) marks) s p)
      (sym (lowest_of spot.operands below within.operands))
      (subst (λ ms. Here code last (spot_with to levels handlers (top ++ below) ms) s p)
      (sym (lowest_of spot.marks under within.marks)) at))

  -- further on
  further : (spot : Spot) (place to : ℕ) (below : List (List ℕ)) (under : List ℕ) → place ≤ to →
      Within spot place below under → Within spot to below under
  further spot place to below under far within = record {
    before = omega (arith, far, within.before);
    operands = within.operands;
    marks = within.marks;
  }

  -- what the handler of a turn does with an outcome is what follows the turn, or what is around its
  -- loop
  turn_leads : (c : Code) (value : List ℕ) (spot : Spot) (s : Status) (levels place : ℕ)
      (fs : List Frame) (loop : LoopTree) (ends : Option ℕ) (turn : ℕ) →
      FramesAt code place (Turns loop ends turn ∷ fs) → levels + brackets fs ≤ 255 →
      Within spot place (beneath fs) (marks_beneath fs) → (did : Did) →
      Resumes code last did (onward_of last levels fs s (Leaves c value)) →
      Resumes code last
      (led (way_of (part_of ends) c) c value spot s
      (handler_with (part_of ends) (turn + 1) levels (beneath fs) (marks_beneath fs))
      (handlers_beneath levels fs) did)
      (onward_of last levels (Turns loop ends turn ∷ fs) s (Leaves c value))
  turn_leads Break value spot s levels place fs loop (Some end) turn at fits within did around =
      let far = part_grows code place loop turn at.0 (Some end) at.1 in
      lands (turn + 1) levels (handlers_beneath levels fs) [] (beneath fs) (marks_beneath fs) spot s _
      (further spot place (turn + 1) (beneath fs) (marks_beneath fs) (omega (arith, far)) within)
      (stands_here code last (turn + 1) levels Finishes fs (turn + 2) s (at.0.over, omega arith) at.2
      fits)
  turn_leads Break value spot s levels place fs loop None turn at fits within did around =
      let far = part_grows code place loop turn at.0 None at.1 in
      lands (turn + 1) levels (handlers_beneath levels fs) [] (beneath fs) (marks_beneath fs) spot s _
      (further spot place (turn + 1) (beneath fs) (marks_beneath fs) (omega (arith, far)) within)
      (stands_here code last (turn + 1) levels Finishes fs (turn + 2) s (at.0.over, omega arith) at.2
      fits)
  turn_leads Continue value spot s levels place fs loop (Some end) turn at fits within did around =
      let frames = Turns loop (Some end) turn ∷ fs in
      lands end levels (handlers_beneath levels frames) ([] ∷ []) (beneath fs) (marks_beneath fs) spot
      s _
      (further spot place end (beneath fs) (marks_beneath fs) (omega (arith, at.1.0)) within)
      (stands_here code last end levels (Has []) frames end s refl
      (at.0, (refl, at.1.1 ∙ sym at.1.0), at.2) fits)
  turn_leads Continue value spot s levels place fs loop None turn at fits within did around = around
  turn_leads Error value spot s levels place fs loop (Some end) turn at fits within did around =
      around
  turn_leads Error value spot s levels place fs loop None turn at fits within did around = around
  turn_leads Return value spot s levels place fs loop (Some end) turn at fits within did around =
      around
  turn_leads Return value spot s levels place fs loop None turn at fits within did around = around
  turn_leads Again value spot s levels place fs loop (Some end) turn at fits within did around =
      around
  turn_leads Again value spot s levels place fs loop None turn at fits within did around = around
  turn_leads AgainRunning value spot s levels place fs loop (Some end) turn at fits within did
      around =
      around
  turn_leads AgainRunning value spot s levels place fs loop None turn at fits within did around =
      around

  -- the same of a turn of foreach, outside of which there are the elements that are left
  round_leads : (c : Code) (value : List ℕ) (spot : Spot) (s : Status) (levels place : ℕ)
      (fs : List Frame) (each : Each) (elements : List (List ℕ)) (ends turn : ℕ) →
      FramesAt code place (Elements each elements ends turn ∷ fs) → levels + brackets fs ≤ 255 →
      Within spot place (elements ++ beneath fs) (length (beneath fs) ∷ marks_beneath fs) →
      (did : Did) → Resumes code last did (onward_of last levels fs s (Leaves c value)) →
      Resumes code last
      (led (way_of (covers.Body ends) c) c value spot s
      (handler_with (covers.Body ends) (turn + 1) levels (elements ++ beneath fs)
      (length (beneath fs) ∷ marks_beneath fs)) (handlers_beneath levels fs) did)
      (onward_of last levels (Elements each elements ends turn ∷ fs) s (Leaves c value))
  round_leads Break value spot s levels place fs each elements ends turn at fits within did around =
      let below = elements ++ beneath fs in
      let under = length (beneath fs) ∷ marks_beneath fs in
      lands (turn + 1) levels (handlers_beneath levels fs) [] below under spot s _
      (further spot place (turn + 1) below under
      (omega (arith, at.1, assigns_grow code at.0.assigns)) within)
      (stands_here code last (turn + 1) levels (Drops elements) fs (turn + 2) s
      (at.0.done, omega arith) at.2 fits)
  round_leads Continue value spot s levels place fs each elements ends turn at fits within did
      around =
      let frames = Elements each elements ends turn ∷ fs in
      let below = elements ++ beneath fs in
      let under = length (beneath fs) ∷ marks_beneath fs in
      lands ends levels (handlers_beneath levels frames) ([] ∷ []) below under spot s _
      (further spot place ends below under (omega (arith, at.1)) within)
      (stands_here code last ends levels (Has []) frames ends s refl (at.0, refl, at.2) fits)
  round_leads Error value spot s levels place fs each elements ends turn at fits within did around =
      around
  round_leads Return value spot s levels place fs each elements ends turn at fits within did
      around =
      around
  round_leads Again value spot s levels place fs each elements ends turn at fits within did around =
      around
  round_leads AgainRunning value spot s levels place fs each elements ends turn at fits within did
      around =
      around

  -- what all handlers do with an outcome is what the frames do with it
  handled_leads : (c : Code) (value : List ℕ) (spot : Spot) (s : Status) (levels place : ℕ)
      (fs : List Frame) → FramesAt code place fs → levels + brackets fs ≤ 255 →
      Within spot place (beneath fs) (marks_beneath fs) →
      Resumes code last (handled (handlers_beneath levels fs) c value spot s)
      (onward_of last levels fs s (Leaves c value))
  handled_leads c value spot s levels place [] at fits within = refl
  handled_leads c value spot s levels place (Rest cs f ∷ fs) at fits within =
      handled_leads c value spot s levels at.0 fs at.2 fits
      (further spot place at.0 (beneath fs) (marks_beneath fs)
      (script_grows code place cs f at.0 at.1) within)
  handled_leads c value spot s levels place (Bracket word ∷ fs) at fits within =
      let far = joined_grows code (place + 1) word at.1.0 at.1.1 in
      handled_leads c value spot s (suc levels) at.1.0 fs at.1.2 (omega (arith, fits))
      (record {
        before = omega (arith, far, within.before);
        operands = lies_on spot.operands (operands_of word (beneath fs)) (beneath fs) within.operands
            (word_above word (beneath fs));
        marks = lies_on spot.marks _ (marks_beneath fs) within.marks
            (mark_above (is_counted word.word) (length (beneath fs)) (marks_beneath fs));
      })
  handled_leads c value spot s levels place (Body ∷ fs) at fits within =
      handled_leads c value spot s (suc levels) (place + 1) fs at.1 (omega (arith, fits))
      (further spot place (place + 1) (beneath fs) (marks_beneath fs) (omega arith) within)
  handled_leads c value spot s levels place (Skip ∷ fs) at fits within =
      handled_leads c value spot s levels at.0 fs at.3 fits
      (further spot place at.0 (beneath fs) (marks_beneath fs) (omega (arith, at.2)) within)
  handled_leads c value spot s levels place (Alone f ∷ fs) at fits within =
      handled_leads c value spot s levels at.1.0 fs at.1.2 fits
      (further spot place at.1.0 (beneath fs) (marks_beneath fs)
      (omega (arith, formula_grows code at.1.1)) within)
  handled_leads c value spot s levels place (Command doing ∷ fs) at fits within =
      handled_leads c value spot s levels at.1.0 fs at.1.2 fits
      (further spot place at.1.0 (beneath fs) (marks_beneath fs)
      (omega (arith, done_grows code doing (place + 1) at.1.0 at.1.1)) within)
  handled_leads c value spot s levels place (For test step body ∷ fs) at fits within =
      handled_leads c value spot s levels at.1.0 fs at.1.2 fits
      (further spot place at.1.0 (beneath fs) (marks_beneath fs)
      (omega (arith, turns_grow code at.1.1)) within)
  handled_leads c value spot s levels place (Turns loop ends turn ∷ fs) at fits within =
      let far = part_grows code place loop turn at.0 ends at.1 in
      turn_leads c value spot s levels place fs loop ends turn at fits within _
      (handled_leads c value spot s levels (turn + 2) fs at.2 fits
      (further spot place (turn + 2) (beneath fs) (marks_beneath fs) (omega (arith, far)) within))
  handled_leads c value spot s levels place (Elements each elements ends turn ∷ fs) at fits within =
      let n = length (beneath fs) in
      round_leads c value spot s levels place fs each elements ends turn at fits within _
      (handled_leads c value spot s levels (turn + 2) fs at.2 fits
      (record {
        before = omega (arith, at.1, assigns_grow code at.0.assigns, within.before);
        operands = lies_on spot.operands (elements ++ beneath fs) (beneath fs) within.operands
            (those elements (beneath fs));
        marks = lies_on spot.marks (n ∷ marks_beneath fs) (marks_beneath fs) within.marks
            (those (n ∷ []) (marks_beneath fs));
      }))
  handled_leads c value spot s levels place (Catches variable ends ∷ fs) at fits within =
      let number = number_of c in
      lands (ends + 1) levels (handlers_beneath levels fs) (value ∷ decimal number ∷ []) (beneath fs)
      (marks_beneath fs) spot s _
      (further spot place (ends + 1) (beneath fs) (marks_beneath fs) (omega (arith, at.2)) within)
      (stands_here code last (ends + 1) levels (Stores variable number value) fs at.0 s at.3 at.4
      fits)

  -- the outcome of a command
  pub outcome_leads : (place levels : ℕ) (fs : List Frame) (s : Status) → FramesAt code place fs →
      levels + brackets fs ≤ 255 → (outcome : Outcome) →
      Resumes code last (resumed (spot_below place levels fs) outcome s)
      (onward_of last levels fs s outcome)
  outcome_leads place levels fs s at fits (Gives value) =
      stands_here code last place levels (Has value) fs place s refl at fits
  outcome_leads place levels fs s at fits (Leaves c value) =
      handled_leads c value (spot_below place levels fs) s levels place fs at fits
      (record {
        before = omega arith;
        operands = those [] (beneath fs);
        marks = those [] (marks_beneath fs);
      })
  outcome_leads place levels fs s at fits (Stops stop) = stops_pass code last levels fs s stop

  -- the spot stands before frames, with their handlers, and on their operands and marks
  pub record Amid (spot : Spot) (levels : ℕ) (fs : List Frame) : Type 0 where
    pub end : ℕ
    pub behind : FramesAt code end fs
    pub fits : levels + brackets fs ≤ 255
    pub before : spot.place ≤ end
    pub operands : LiesOn spot.operands (beneath fs)
    pub marks : LiesOn spot.marks (marks_beneath fs)
    pub handlers : spot.handlers ≡ handlers_beneath levels fs

  -- these operands on those of the frames
  pub amid_operands : (place levels end : ℕ) (operands : List (List ℕ)) (fs : List Frame) →
      LiesOn operands (beneath fs) → place ≤ end → FramesAt code end fs →
      levels + brackets fs ≤ 255 →
      Amid (spot_with place levels (handlers_beneath levels fs) operands (marks_beneath fs)) levels fs
  amid_operands place levels end operands fs lies before behind fits = record {
    end = end;
    behind = behind;
    fits = fits;
    before = before;
    operands = lies;
    marks = those [] (marks_beneath fs);
    handlers = refl;
  }

  -- an open word
  pub amid_word : (place levels end : ℕ) (word : Open) (fs : List Frame) → place ≤ end →
      FramesAt code end fs → levels + brackets fs ≤ 255 →
      Amid (spot_at place levels (Part word) fs) levels fs
  amid_word place levels end word fs before behind fits = record {
    end = end;
    behind = behind;
    fits = fits;
    before = before;
    operands = word_above word (beneath fs);
    marks = mark_above (is_counted word.word) (length (beneath fs)) (marks_beneath fs);
    handlers = refl;
  }

  -- where the outcome of what began amid that leads
  pub leaves_so : (c : Code) (value : List ℕ) (spot : Spot) (levels : ℕ) (fs : List Frame)
      (s : Status) → Amid spot levels fs →
      Resumes code last (handled spot.handlers c value spot s)
      (onward_of last levels fs s (Leaves c value))
  leaves_so c value spot levels fs s amid =
      subst (λ hs. Resumes code last (handled hs c value spot s)
      (onward_of last levels fs s (Leaves c value)))
      (sym amid.handlers)
      (handled_leads c value spot s levels amid.end fs amid.behind amid.fits
      (record { before = amid.before; operands = amid.operands; marks = amid.marks }))

  -- what is left where an outcome leads is what was left to be done
  pub resumes_so : (did : Did) (p : Dialogue X) → Resumes code last did p → Follows code last did p
  resumes_so (Went spot s) p at = comes_here code last spot s at
  resumes_so (Reads text next) p at = absurd at
  resumes_so (Begins words spot s) p at = absurd at
  resumes_so (Says words spot s) p at = absurd at
  resumes_so (Runs text levels spot s) p at = absurd at
  resumes_so (Evaluates text spot s) p at = absurd at
  resumes_so (Over outcome s) p is = same_goes is
  resumes_so Stuck p at = absurd at

  -- the error of an instruction
  pub failure_leads : (flaw : Flaw) (spot : Spot) (levels : ℕ) (fs : List Frame) (s : Status) →
      Amid spot levels fs →
      Follows code last (fails flaw spot s)
      (onward_of last levels fs s (Leaves Error (text_of flaw)))
  failure_leads flaw spot levels fs s amid =
      let value = text_of flaw in
      resumes_so (fails flaw spot s) _ (leaves_so Error value spot levels fs s amid)
