use Rattle.std.proofs.Common.{◌∙◌, ap, refl, arith}
use Rattle.std.proofs.lemmas.List.{take_all}
use Rattle.std.proofs.lemmas.List.Sums.{sum_by_more}
use Rattle.choices.specs.Lines.{Line, allowed_to}
use Rattle.choices.proofs.table.sum_allowed.Goals as goal

pub loop-entry-init : goal.loop-entry-init
loop-entry-init g c = record { sum = refl; small = omega arith }

pub overflow_add-sum : goal.overflow_add-sum
overflow_add-sum g c =
    omega (
      arith,
      c.loop-entry.invariant.small,
      c.loop-entry-test.true,
      c.from-sum.ensures,
      c.max.ensures.within,
      c.requires,
    )

pub loop-entry-preserved : goal.loop-entry-preserved
loop-entry-preserved g c =
    let size = ap (λ (l : Line). l.held.max) c.entry-item.is in
    let allowed = sum_by_more (λ (l : Line). l.held.max) c.args.entries.now
    c.loop-entry.entry-index c.entry-item.result c.loop-entry-test.true in
    record {
      sum = omega (
        arith,
        allowed,
        size,
        c.loop-entry.invariant.sum,
        c.max.ensures.max,
        c.from-sum.ensures,
      );
      small = omega (
        arith,
        c.loop-entry.invariant.small,
        c.max.ensures.within,
        c.from-sum.ensures,
      );
    }

pub returns : goal.returns
returns g c =
    c.loop-entry.invariant.sum
    ∙ ap allowed_to (take_all c.loop-entry.entry-index c.args.entries.now c.loop-entry-test.false)
