use Rattle.std.proofs.Common.{◌≡◌, ◌∙◌, ◌+◌, ◌<◌, length, drop, map, sym, ap, rules, arith}
use Rattle.std.proofs.Math.ListN.{set}
use Rattle.std.proofs.lemmas.List.{drop-set-lt, length-set}
use Rattle.nesting.specs.Foreach.{behind, dealt, row}
use Rattle.nesting.specs.Looping.{pair_of}
use Rattle.nesting.proofs.Assigning.{leaves_as, leaves_fault, leaves_more, next_row}
use Rattle.nesting.proofs.Replaced.{replaced}
use Rattle.nesting.proofs.foreach.assign_all.Goals as goal

pub returns-in-Some-clause-assigns : goal.returns-in-Some-clause-assigns
returns-in-Some-clause-assigns g c = λ s fits.
    let pairs = c.pairs.pairs.items in
    let i = c.pairs.index in
    let pair = c.index_mut-pair.result.now in
    let lt : i < length pairs = search (rules, arith) in
    let l = leaves_as _ s _ _ _ (next_row pairs i pair lt c.index_mut-pair.ensures.value)
    (c.pairs.invariant.leaves s fits) in
    leaves_fault c.pairs.state c.assign.new.state s _ (dealt pair.names.items pair.elements.items)
    (row (map (λ p. pair_of p) (drop (i + 1) pairs))) c.in_ok-fault.field-0 l c.in-Some.fault
    c.in-Some.is (c.in_ok-fault.ensures.assigns l.status l.fits)

pub pairs-smaller : goal.pairs-smaller
pairs-smaller g c =
    let pairs = c.pairs.pairs.items in
    let i = c.pairs.index in
    let lt : i < length pairs = search (rules, arith) in
    let same : length (set pairs i c.assign.new.self) ≡ length pairs = length-set _ _ _ in
    omega arith

pub pairs-preserved : goal.pairs-preserved
pairs-preserved g c =
    let pairs = c.pairs.pairs.items in
    let i = c.pairs.index in
    let pair = c.index_mut-pair.result.now in
    let lt : i < length pairs = search (rules, arith) in
    let on : i < i + 1 = omega arith in
    let more = drop-set-lt (i + 1) pairs i c.assign.new.self on in
    record {
      leaves = λ s fits.
          let l = leaves_as _ s _ _ _ (next_row pairs i pair lt c.index_mut-pair.ensures.value)
          (c.pairs.invariant.leaves s fits) in
          leaves_as _ s _ _ _ (ap (λ ps. row (map (λ p. pair_of p) ps)) (sym more))
          (leaves_more c.pairs.state c.assign.new.state s _
          (dealt pair.names.items pair.elements.items)
          (row (map (λ p. pair_of p) (drop (i + 1) pairs))) c.in_ok-fault.field-0 l c.in_default.is
          (c.in_ok-fault.ensures.assigns l.status l.fits));
      behind = replaced (λ p. pair_of p) behind pairs i pair c.assign.new.self lt
          c.index_mut-pair.ensures.value (rw c.in_default.is at c.in_ok-fault.ensures.behind)
          ∙ c.pairs.invariant.behind;
      left = search rules;
    }
