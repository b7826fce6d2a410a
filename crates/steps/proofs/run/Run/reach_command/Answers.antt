use Rattle.std.proofs.Common.{◌≡◌, ◌∙◌, ◌<◌, ◌≤◌, ◌-◌, arith, length, rules, refl, sym, subst}
use Rattle.state.specs.Budget.{again_of}
use Rattle.state.specs.Prelude.{outcome_of}
use Rattle.steps.specs.Does.{Arrives}
use Rattle.steps.specs.Follows.{Follows, Resumes}
use Rattle.steps.specs.Handling.{resumed}
use Rattle.steps.specs.Run.{IsIdle, IsQuiet}
use Rattle.steps.specs.Spot.{Went}
use Rattle.steps.specs.View.{did_of, spot_of, with_parts}
use Rattle.steps.specs.declared.progress.Progress.TheVariants as went
use Rattle.steps.proofs.First.{again_small, any_state, outcome_counts, places_bound, stands_still, value_idle}
use Rattle.steps.proofs.Goes.{goes_on}
use Rattle.steps.proofs.Handlers.{leads_nowhere}
use Rattle.steps.proofs.Leads.Resumed.{resumes_so}
use Rattle.steps.proofs.Measure.{command_falls}
use Rattle.steps.proofs.Runs.{arrives_follow, same_parts}
use Rattle.steps.proofs.Still.{outcome_stays, stays_still, still_arrives}
use Rattle.steps.proofs.run.Run.reach_command.Goals as goal

pub returns-then-ne-clause-stops : goal.returns-then-ne-clause-stops
returns-then-ne-clause-stops g c = λ last next s fits awaits.
    let code = c.args.self.now.code.value.items in
    let outcome = outcome_of c.args.outcome in
    record {
      status = s;
      fits = fits;
      stops = search rules;
      follows = subst (λ did. Follows code last did (next s outcome))
          (sym (c.in_ok-progress.ensures.does s))
          (resumes_so code last _ (next s outcome) (awaits s outcome));
    }

-- where an outcome leads no command begins
pub returns-then-ne-clause-onward : goal.returns-then-ne-clause-onward
returns-then-ne-clause-onward g c = λ begun same.
    absurd (leads_nowhere c.in_ok-progress.progress c.resume.new.spot
    (spot_of c.args.self.now.spot) (outcome_of c.args.outcome) c.in_ok-progress.ensures.does begun)

pub returns-then-ne-clause-falls : goal.returns-then-ne-clause-falls
returns-then-ne-clause-falls g c = λ begun.
    absurd (leads_nowhere c.in_ok-progress.progress c.resume.new.spot
    (spot_of c.args.self.now.spot) (outcome_of c.args.outcome) c.in_ok-progress.ensures.does begun)

pub returns-clause-stops : goal.returns-clause-stops
returns-clause-stops g c = λ last next s fits awaits.
    let code = c.args.self.now.code.value.items in
    let state = c.args.state.now in
    let outcome = outcome_of c.args.outcome in
    let mid = spot_of c.resume.new.spot in
    let goes : c.in_ok-progress.progress ≡ went.GoesOn =
    goes_on c.in_ok-progress.progress (sym c.ne.ensures ∙ c.if-ne.false) in
    let led : Went mid s ≡ resumed (spot_of c.args.self.now.spot) outcome s =
    subst (λ progress. did_of progress c.resume.new.spot s
    ≡ resumed (spot_of c.args.self.now.spot) outcome s) goes (c.in_ok-progress.ensures.does s) in
    let rest : Resumes code last (Went mid s) (next s outcome) =
    subst (λ did. Resumes code last did (next s outcome)) (sym led) (awaits s outcome) in
    let is_code : c.deref-2.result.now ≡ code = search rules in
    let parts = with_parts c.advance.new.scopes state.procs c.advance.new.left s in
    let did = did_of c.in_ok-advance.field-0 c.advance.new.spot parts in
    let from = with_parts state.scopes state.procs state.left s in
    let came : Arrives code mid from did =
    subst (λ items. Arrives items mid from did) is_code (c.in_ok-advance.ensures.arrives s) in
    record {
      status = parts;
      fits = record {
        scopes = refl;
        procedures = refl;
        ids = fits.ids;
        log = fits.log;
        left = refl;
      };
      stops = c.in_ok-advance.ensures.stops;
      follows = arrives_follow code last mid s from did (next s outcome)
          (same_parts s state.scopes state.procs state.left fits.scopes fits.procedures fits.left)
          rest came;
    }

pub returns-clause-onward : goal.returns-clause-onward
returns-clause-onward g c = λ begun same.
    let code = c.args.self.now.code.value.items in
    let new = c.advance.new.spot.place in
    let mid = c.resume.new.spot.place in
    let is_code : c.deref-2.result.now ≡ code = search rules in
    let fewer : length code - new < length code - mid =
    subst (λ items. length items - new < length items - mid) is_code
    (c.in_ok-advance.ensures.onward begun same) in
    omega (arith, fewer, c.resume.ensures.place)

pub returns-clause-falls : goal.returns-clause-falls
returns-clause-falls g c = λ begun.
    let code = c.args.self.now.code.value.items in
    let old = c.args.self.now.spot.place in
    let new = c.advance.new.spot.place in
    let mid = c.resume.new.spot.place in
    let is_code : c.deref-2.result.now ≡ code = search rules in
    command_falls (length code) old new c.args.state.now.left c.advance.new.left
    c.advance.ensures.ticks (λ same.
    let fewer : length code - new < length code - mid =
    subst (λ items. length items - new < length items - mid) is_code
    (c.in_ok-advance.ensures.onward begun same) in
    omega (arith, fewer, c.resume.ensures.place))

pub returns-then-ne-clause-first : goal.returns-then-ne-clause-first
returns-then-ne-clause-first g c = λ said fresh value still.
    value_idle said c.args.self.now.code.value.items c.in_ok-progress.progress c.resume.new.spot
    c.args.self.now.spot c.args.outcome value
    c.in_ok-progress.ensures.does

pub returns-then-ne-clause-again : goal.returns-then-ne-clause-again
returns-then-ne-clause-again g c = λ over.
    let counts = outcome_counts c.in_ok-progress.progress c.resume.new.spot
    (spot_of c.args.self.now.spot) (outcome_of c.args.outcome) c.in_ok-progress.ensures.does over in
    omega (arith, counts)

pub returns-clause-first : goal.returns-clause-first
returns-clause-first g c = λ said fresh value left.
    let self = c.args.self.now in
    let mid = c.resume.new.spot in
    let code = self.code.value.items in
    let goes : c.in_ok-progress.progress ≡ went.GoesOn =
    goes_on c.in_ok-progress.progress (sym c.ne.ensures ∙ c.if-ne.false) in
    let is_code : c.deref-2.result.now ≡ code = search rules in
    let still = stands_still c.in_ok-progress.progress mid self.spot c.args.outcome value
    c.in_ok-progress.ensures.does goes in
    subst (λ items. IsIdle said items c.in_ok-advance.field-0 c.advance.new.spot) is_code
    (c.in_ok-advance.ensures.first said
    (subst (λ items. IsQuiet said items mid.place) (sym is_code)
    (subst (λ n. IsQuiet said code n) (sym still.0) fresh.quiet))
    (still.1 ∙ fresh.handlers) left)

pub returns-clause-again : goal.returns-clause-again
returns-clause-again g c = λ over.
    let self = c.args.self.now in
    let code = self.code.value.items in
    let last = outcome_of c.advance.new.spot.outcome in
    let is_code : c.deref-2.result.now ≡ code = search rules in
    let bound = places_bound (length code) self.spot.place (again_of last) (again_small last)
    (λ past. c.in_ok-advance.ensures.ended
    (subst (λ items. length items ≤ c.resume.new.spot.place) (sym is_code)
    (omega (arith, past, c.resume.ensures.place))) over) in
    omega (arith, bound)

pub returns-then-ne-clause-still : goal.returns-then-ne-clause-still
returns-then-ne-clause-still g c = λ is.
    outcome_stays c.in_ok-progress.progress c.resume.new.spot (spot_of c.args.self.now.spot)
    (outcome_of c.args.outcome) c.in_ok-progress.ensures.does

pub returns-clause-still : goal.returns-clause-still
returns-clause-still g c = λ is.
    let code = c.args.self.now.code.value.items in
    let state = c.args.state.now in
    let s = any_state in
    let is_code : c.deref-2.result.now ≡ code = search rules in
    let parts = with_parts c.advance.new.scopes state.procs c.advance.new.left s in
    let from = with_parts state.scopes state.procs state.left s in
    let did = did_of c.in_ok-advance.field-0 c.advance.new.spot parts in
    let came : Arrives code (spot_of c.resume.new.spot) from did =
    subst (λ items. Arrives items (spot_of c.resume.new.spot) from did) is_code
    (c.in_ok-advance.ensures.arrives s) in
    stays_still c.in_ok-advance.field-0 c.advance.new.spot parts (again_of (outcome_of c.args.outcome))
    (still_arrives code is came)
