-- How a place is shown: by the instruction that stands there, and by the place that comes next.
use Rattle.std.proofs.Common.{◌≡◌, ℕ, zero, suc, ◌+◌, ◌≤◌, List, [], ◌∷◌, Some, None, refl, sym, subst}
use Rattle.std.specs.Prelude.{slice_get}
use Rattle.code.specs.Code.{At}
use Rattle.code.specs.declared.instruction.Instruction.{Instruction}
use Rattle.plan.specs.Plan.{and_then, onward}
use Rattle.state.specs.Dialogue.{tick_of}
use Rattle.state.specs.Outcome.{Stop}
use Rattle.state.specs.Prelude.{Course, Dialogue, Outcome, Status, Stops}
use Rattle.expects.specs.Expect.{by_name}
use Rattle.runs.specs.Commands.{command}
use Rattle.steps.specs.Follows.{Here, Comes, Follows, Waits, run_by, value_by}
use Rattle.steps.specs.Goes.{Goes, here}
use Rattle.steps.specs.Layout.{HeadAt, FramesAt}
use Rattle.steps.specs.Machine.{machine}
use Rattle.steps.specs.Moves.{ticked}
use Rattle.steps.specs.Places.{Head, Frame, Rest, Bracket, Body, Skip, Alone, Command, For, Turns, Elements, Catches, brackets, left_of, onward_of, spot_at}
use Rattle.steps.specs.Spot.{Spot, Did, Went, Reads, Begins, Says, Runs, Evaluates, Over, Stuck}
use Rattle.steps.proofs.Leads.Silent.{same_goes, then_goes}

module _ {A X : Type 0} (code : List (Instruction A)) (last : Status → Outcome → Dialogue X) where
  -- what waits for an outcome did so before some silent steps
  pub waits_silently : {p q : Dialogue X} (course : Course) (spot : Spot) → Goes p q →
      Waits code last course spot q → Waits code last course spot p
  waits_silently course spot g waits = record {
    next = waits.next;
    goes = then_goes g waits.goes;
    resumes = waits.resumes;
  }

  -- a stop goes past all frames
  pub stops_pass : (levels : ℕ) (frames : List Frame) (s : Status) (stop : Stop) →
      onward_of last levels frames s (Stops stop) ≡ last s (Stops stop)
  stops_pass levels [] s stop = refl
  stops_pass levels (Rest cs f ∷ frames) s stop = stops_pass levels frames s stop
  stops_pass levels (Bracket word ∷ frames) s stop = stops_pass (suc levels) frames s stop
  stops_pass levels (Body ∷ frames) s stop = stops_pass (suc levels) frames s stop
  stops_pass levels (Skip ∷ frames) s stop = stops_pass levels frames s stop
  stops_pass levels (Alone f ∷ frames) s stop = stops_pass levels frames s stop
  stops_pass levels (Command doing ∷ frames) s stop = stops_pass levels frames s stop
  stops_pass levels (For test step body ∷ frames) s stop = stops_pass levels frames s stop
  stops_pass levels (Turns loop (Some end) turn ∷ frames) s stop = stops_pass levels frames s stop
  stops_pass levels (Turns loop None turn ∷ frames) s stop = stops_pass levels frames s stop
  stops_pass levels (Elements each elements ends turn ∷ frames) s stop =
      stops_pass levels frames s stop
  stops_pass levels (Catches variable ends ∷ frames) s stop = stops_pass levels frames s stop

  -- this is left to be done there
  pub stands_here : (place levels : ℕ) (head : Head) (frames : List Frame) (end : ℕ) (s : Status) →
      HeadAt code place head end → FramesAt code end frames → levels + brackets frames ≤ 255 →
      Here code last (spot_at place levels head frames) s (left_of last levels head frames s)
  stands_here place levels head frames end s at behind fits = record {
    place = place;
    levels = levels;
    head = head;
    frames = frames;
    end = end;
    at = at;
    behind = behind;
    fits = fits;
    stands = refl;
    is = refl;
  }

  pub stands : (place levels : ℕ) (head : Head) (frames : List Frame) (end : ℕ) (s : Status) →
      HeadAt code place head end → FramesAt code end frames → levels + brackets frames ≤ 255 →
      Comes code last (spot_at place levels head frames) s (left_of last levels head frames s)
  stands place levels head frames end s at behind fits = record {
    then = left_of last levels head frames s;
    goes = here;
    at = stands_here place levels head frames end s at behind fits;
  }

  -- it continues as itself
  pub comes_here : {p : Dialogue X} (spot : Spot) (s : Status) → Here code last spot s p →
      Comes code last spot s p
  comes_here {p = p} spot s at = record { then = p; goes = here; at = at }

  -- some silent steps first
  pub sooner : {p q : Dialogue X} (spot : Spot) (s : Status) → Goes p q →
      Comes code last spot s q → Comes code last spot s p
  sooner spot s goes comes =
      record { then = comes.then; goes = then_goes goes comes.goes; at = comes.at }

  pub silently : {p q : Dialogue X} (did : Did) → Goes p q → Follows code last did q →
      Follows code last did p
  silently (Went spot s) g f = sooner spot s g f
  silently (Reads text next) g f = λ tree is. silently (next tree) g (f tree is)
  silently (Begins words spot s) g f = waits_silently (command spot.levels s words) spot g f
  silently (Says words spot s) g f = waits_silently (by_name spot.levels s words) spot g f
  silently (Runs text levels spot s) g f =
      λ tree is. waits_silently (run_by tree levels s) spot g (f tree is)
  silently (Evaluates text spot s) g f =
      λ tree is. waits_silently (value_by tree spot.levels s) spot g (f tree is)
  silently (Over outcome s) g f = then_goes g f
  silently Stuck g f = f

  -- by the instruction that stands there
  pub by : (it : Instruction A) (spot : Spot) (s : Status) (p : Dialogue X) →
      At code spot.place it → Follows code last (machine (Some it) spot s) p →
      Follows code last (machine (slice_get code spot.place) spot s) p
  by it spot s p at follows =
      subst (λ o. Follows code last (machine o spot s) p) (sym at) follows

  -- a tick, or the limit
  pub tick_leads : (left levels : ℕ) (frames : List Frame) (s : Status) (next : Status → Did)
      (course : Status → Course) →
      ((t : Status) → Follows code last (next t)
      (and_then (course t) (onward (onward_of last levels frames)))) →
      Follows code last (ticked left s next)
      (and_then (tick_of left s course) (onward (onward_of last levels frames)))
  tick_leads zero levels frames s next course f = same_goes (stops_pass levels frames s _)
  tick_leads (suc left) levels frames s next course f = f (record s { left = left })
