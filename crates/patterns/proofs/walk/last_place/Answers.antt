use Rattle.std.proofs.Common.{ℕ, ◌+◌, ◌-◌, ◌*◌, ◌≤◌, length, refl, arith}
use Rattle.std.proofs.lemmas.Bool.{false≢true}
use Rattle.patterns.specs.Runs.{items_of_run, IsPlace}
use Rattle.patterns.proofs.Places.{no_items_last, none_behind, none_from, steps_of_turn, steps_of_skip, steps_within}
use Rattle.patterns.proofs.walk.last_place.Goals as goal

pub returns-then-size-eq0-clause-place : goal.returns-then-size-eq0-clause-place
returns-then-size-eq0-clause-place g c = rw c.len-long.ensures
    (no_items_last (items_of_run c.args.run.now) c.args.window.now c.args.from
    (omega (arith, c.len-size.ensures)) c.requires)

pub returns-then-fits_at-clause-place : goal.returns-then-fits_at-clause-place
returns-then-fits_at-clause-place g c =
    let items = items_of_run c.args.run.now in
    let w = c.args.window.now in
    let q : ℕ = c.loop-end.end - c.skipped_after-skipped.result in
    let behind = none_behind (IsPlace items w) q c.loop-end.end
    (λ (k : ℕ) low below. c.skipped_after-skipped.ensures.none k (omega arith) below)
    c.loop-end.invariant.after in
    record {
      low = omega arith;
      here = c.if-fits_at.ensures.fits.0 refl;
      after = λ (k : ℕ) above. behind k (omega arith);
    }

pub returns-then-fits_at-clause-steps : goal.returns-then-fits_at-clause-steps
returns-then-fits_at-clause-steps g c =
    let size : ℕ = length (items_of_run c.args.run.now) in
    let d : ℕ = c.len-long.result - c.len-size.result + 1 - c.loop-end.end in
    let n : ℕ = d + c.skipped_after-skipped.result + 1 in
    let skip : c.saturating_add.result ≤ c.loop-end.steps + c.skipped_after-skipped.result =
    omega (arith, c.saturating_add.ensures) in
    let turn : c.fits_at.new.steps ≤ c.args.steps.now + size * n =
    steps_of_turn c.args.steps.now c.loop-end.steps c.saturating_add.result c.fits_at.new.steps
    size d c.skipped_after-skipped.result n (omega (arith, c.len-size.ensures))
    c.loop-end.invariant.steps skip c.fits_at.ensures.steps refl
    in
    steps_within c.args.steps.now c.fits_at.new.steps size n
    (length c.args.window.now + 1) turn (omega (arith, c.len-size.ensures, c.len-long.ensures))

pub loop-end-preserved-else-fits_at : goal.loop-end-preserved-else-fits_at
loop-end-preserved-else-fits_at g c =
    let items = items_of_run c.args.run.now in
    let w = c.args.window.now in
    let q : ℕ = c.loop-end.end - c.skipped_after-skipped.result in
    let p : ℕ = q - 1 in
    let last : ℕ = c.len-long.result - c.len-size.result + 1 in
    let skip : c.saturating_add.result ≤ c.loop-end.steps + c.skipped_after-skipped.result =
    omega (arith, c.saturating_add.ensures) in
    let behind = none_behind (IsPlace items w) q c.loop-end.end
    (λ (k : ℕ) low below. c.skipped_after-skipped.ensures.none k (omega arith) below)
    c.loop-end.invariant.after in
    record {
      low = omega arith;
      high = omega arith;
      after = none_from (IsPlace items w) p (λ here. false≢true (c.if-fits_at.ensures.fits.1 here))
          (λ (k : ℕ) above. behind k (omega arith));
      steps = steps_of_turn c.args.steps.now c.loop-end.steps c.saturating_add.result
          c.fits_at.new.steps (length items) (last - c.loop-end.end)
          c.skipped_after-skipped.result (last - p)
          (omega (arith, c.len-size.ensures))
          c.loop-end.invariant.steps skip c.fits_at.ensures.steps (omega arith);
    }

pub loop-end-preserved : goal.loop-end-preserved
loop-end-preserved g c =
    let items = items_of_run c.args.run.now in
    let w = c.args.window.now in
    let q : ℕ = c.loop-end.end - c.skipped_after-skipped.result in
    let last : ℕ = c.len-long.result - c.len-size.result + 1 in
    let skip : c.saturating_add.result ≤ c.loop-end.steps + c.skipped_after-skipped.result =
    omega (arith, c.saturating_add.ensures) in
    record {
      low = omega (arith, c.skipped_after-skipped.ensures.within);
      high = omega arith;
      after = none_behind (IsPlace items w) q c.loop-end.end
          (λ (k : ℕ) low below. c.skipped_after-skipped.ensures.none k (omega arith) below)
          c.loop-end.invariant.after;
      steps = steps_of_skip c.args.steps.now c.loop-end.steps c.saturating_add.result
          (length items) (last - c.loop-end.end) c.skipped_after-skipped.result (last - q)
          (omega (arith, c.len-size.ensures))
          c.loop-end.invariant.steps skip (omega arith);
    }
