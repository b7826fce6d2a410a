use Rattle.std.proofs.Common.{ℕ, ◌+◌, ◌-◌, ◌*◌, ◌≤◌, length, refl, arith}
use Rattle.std.proofs.lemmas.Bool.{false≢true}
use Rattle.patterns.specs.Runs.{items_of_run, IsPlace}
use Rattle.patterns.proofs.Places.{no_items_first, none_joined, none_at, steps_of_turn, steps_of_skip, steps_within}
use Rattle.patterns.proofs.walk.first_place.Goals as goal

pub returns-then-size-eq0-clause-place : goal.returns-then-size-eq0-clause-place
returns-then-size-eq0-clause-place g c = no_items_first (items_of_run c.args.run.now)
    c.args.window.now c.args.from (omega (arith, c.len-size.ensures)) c.requires

pub returns-then-fits_at-clause-place : goal.returns-then-fits_at-clause-place
returns-then-fits_at-clause-place g c =
    let items = items_of_run c.args.run.now in
    let w = c.args.window.now in
    let p : ℕ = c.loop-place.place + c.skipped_before-skipped.result in
    record {
      low = omega arith;
      here = c.if-fits_at.ensures.fits.0 refl;
      before = none_joined (IsPlace items w) c.args.from c.loop-place.place p
          c.loop-place.invariant.before c.skipped_before-skipped.ensures.none;
    }

pub returns-then-fits_at-clause-steps : goal.returns-then-fits_at-clause-steps
returns-then-fits_at-clause-steps g c =
    let size : ℕ = length (items_of_run c.args.run.now) in
    let d : ℕ = c.loop-place.place - c.args.from in
    let n : ℕ = d + c.skipped_before-skipped.result + 1 in
    let skip : c.saturating_add.result ≤ c.loop-place.steps + c.skipped_before-skipped.result =
    omega (arith, c.saturating_add.ensures) in
    let turn : c.fits_at.new.steps ≤ c.args.steps.now + size * n =
    steps_of_turn c.args.steps.now c.loop-place.steps c.saturating_add.result c.fits_at.new.steps
    size d c.skipped_before-skipped.result n (omega (arith, c.len-size.ensures))
    c.loop-place.invariant.steps skip c.fits_at.ensures.steps refl
    in
    steps_within c.args.steps.now c.fits_at.new.steps size n
    (length c.args.window.now + 1) turn (omega (arith, c.len-size.ensures, c.len-long.ensures))

pub loop-place-preserved-then-place-end : goal.loop-place-preserved-then-place-end
loop-place-preserved-then-place-end g c =
    let items = items_of_run c.args.run.now in
    let w = c.args.window.now in
    let size : ℕ = length items in
    let p : ℕ = c.loop-place.place + c.skipped_before-skipped.result in
    let d : ℕ = c.loop-place.place - c.args.from in
    let skip : c.saturating_add.result ≤ c.loop-place.steps + c.skipped_before-skipped.result =
    omega (arith, c.saturating_add.ensures) in
    let before = none_joined (IsPlace items w) c.args.from c.loop-place.place p
    c.loop-place.invariant.before c.skipped_before-skipped.ensures.none in
    record {
      low = omega arith;
      high = omega arith;
      before = none_joined (IsPlace items w) c.args.from p (p + 1) before
          (none_at (IsPlace items w) p (λ here. false≢true (c.if-fits_at.ensures.fits.1 here)));
      steps = steps_of_turn c.args.steps.now c.loop-place.steps c.saturating_add.result
          c.fits_at.new.steps size d c.skipped_before-skipped.result (p + 1 - c.args.from)
          (omega (arith, c.len-size.ensures))
          c.loop-place.invariant.steps skip c.fits_at.ensures.steps (omega arith);
    }

pub loop-place-preserved : goal.loop-place-preserved
loop-place-preserved g c =
    let items = items_of_run c.args.run.now in
    let w = c.args.window.now in
    let p : ℕ = c.loop-place.place + c.skipped_before-skipped.result in
    let d : ℕ = c.loop-place.place - c.args.from in
    let skip : c.saturating_add.result ≤ c.loop-place.steps + c.skipped_before-skipped.result =
    omega (arith, c.saturating_add.ensures) in
    record {
      low = omega arith;
      high = c.skipped_before-skipped.ensures.within;
      before = none_joined (IsPlace items w) c.args.from c.loop-place.place p
          c.loop-place.invariant.before c.skipped_before-skipped.ensures.none;
      steps = steps_of_skip c.args.steps.now c.loop-place.steps c.saturating_add.result
          (length items) d c.skipped_before-skipped.result (p - c.args.from)
          (omega (arith, c.len-size.ensures))
          c.loop-place.invariant.steps skip (omega arith);
    }
