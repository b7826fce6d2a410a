use Rattle.std.proofs.Common.{◌∙◌, ◌<◌, ◌≤◌, length, ap, subst, refl, arith}
use Rattle.std.proofs.lemmas.List.{take_all}
use Rattle.std.proofs.lemmas.List.Sums.{sum_by_more}
use Rattle.choices.specs.Lines.{Line, held_by, allowed_to}
use Rattle.choices.proofs.table.sum_held.Goals as goal

pub loop-entry-init : goal.loop-entry-init
loop-entry-init g c = record { sum = refl; within = omega arith; small = omega arith }

pub overflow_add-sum : goal.overflow_add-sum
overflow_add-sum g c =
    omega (
      arith,
      c.loop-entry.invariant.within,
      c.loop-entry.invariant.small,
      c.loop-entry-test.true,
      c.len.ensures.within,
      c.len.ensures.size,
      c.requires,
    )

pub loop-entry-preserved : goal.loop-entry-preserved
loop-entry-preserved g c =
    let lines = c.args.entries.now in
    let at = c.loop-entry.entry-index in
    let entry = c.entry-item.result in
    let below : at < length lines = c.loop-entry-test.true in
    let bytes = ap (λ (l : Line). length l.held.bytes) c.entry-item.is in
    let size = ap (λ (l : Line). l.held.max) c.entry-item.is in
    let held = sum_by_more (λ (l : Line). length l.held.bytes) lines at entry below in
    let allowed = sum_by_more (λ (l : Line). l.held.max) lines at entry below in
    record {
      sum = omega (arith, held, bytes, c.loop-entry.invariant.sum, c.len.ensures.len);
      within = omega (arith, allowed, size, c.loop-entry.invariant.within, c.len.ensures.within);
      small = omega (arith, allowed, size, c.loop-entry.invariant.small, c.len.ensures.size);
    }

pub returns-clause-held : goal.returns-clause-held
returns-clause-held g c =
    c.loop-entry.invariant.sum
    ∙ ap held_by (take_all c.loop-entry.entry-index c.args.entries.now c.loop-entry-test.false)

pub returns-clause-within : goal.returns-clause-within
returns-clause-within g c =
    subst (λ ls. c.loop-entry.sum ≤ allowed_to ls)
    (take_all c.loop-entry.entry-index c.args.entries.now c.loop-entry-test.false)
    c.loop-entry.invariant.within
