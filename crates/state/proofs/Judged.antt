-- Answers that cut a course off.
use Rattle.std.proofs.Common.{◌≡◌, ◌⊎◌, Bool, true, false, if◌then◌else◌, refl, sym, inl, inr}
use Rattle.std.proofs.lemmas.Bool.{false≢true}
use Rattle.state.specs.Prelude.{Deed, Reply, Ends, Course, Dialogue, Outcome, Gives, Leaves, Stops, Status}
use Rattle.acts.specs.Fits.{fits}
use Rattle.plan.specs.Last.{IsOver}
use Rattle.state.specs.Cut.{CutsOff, IsCutOff, PassesStops, WasCut}
use Rattle.state.specs.Dialogue.{is_no_more, judged, replied}
use Rattle.state.specs.Outcome.{Stop}
use Rattle.state.specs.Outcome as stop

module _ {X : Type 0} (J : X → Type 0) (stopped : Stop → X) (none_cuts : J (stopped stop.NoMore))
    (other_cuts : J (stopped stop.BadAnswer)) where
  judged_over : (none fit : Bool) (next : Dialogue X) → (none ≡ true) ⊎ (fit ≡ false) →
      IsOver J (if none then Ends (stopped stop.NoMore)
      else if fit then next else Ends (stopped stop.BadAnswer))
  judged_over true fit next cuts = (stopped stop.NoMore, none_cuts, refl)
  judged_over false false next cuts = (stopped stop.BadAnswer, other_cuts, refl)
  judged_over false true next (inl none) = absurd (false≢true none)
  judged_over false true next (inr other) = absurd (false≢true (sym other))

  -- a dialogue is over by an answer that cuts it off
  pub judged_cut : (act : Deed) (reply : Reply) (next : Dialogue X) → CutsOff act reply →
      IsOver J (judged stopped act reply next)
  judged_cut act reply next cuts = judged_over (is_no_more reply) (fits act reply) next cuts

-- a course is over, too, by an answer that cuts it off
pub replied_cut : (act : Deed) (s : Status) (next : Status → Reply → Course) (reply : Reply) →
    CutsOff act reply → IsCutOff (replied act s next reply)
replied_cut act s next reply cuts =
    judged_cut (λ left. WasCut left.1) (λ stop. (s, Stops stop)) tt tt act reply (next s reply) cuts

-- what passes stops on is over after a piece that was cut off
pub passes_cut : (next : Status → Outcome → Course) → PassesStops next → (s : Status)
    (o : Outcome) → WasCut o → IsCutOff (next s o)
passes_cut next passes s (Gives value) cut = absurd cut
passes_cut next passes s (Leaves code value) cut = absurd cut
passes_cut next passes s (Stops stop) cut =
    let (left, same) = passes s stop in ((left, Stops stop), cut, same)
