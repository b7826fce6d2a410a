use Rattle.std.proofs.Common.{◌∙◌, ◌+◌, ◌<◌, [], ◌∷◌, length, drop, ap, rules}
use Rattle.std.proofs.Math.ListN.{drop_of_length-le}
use Rattle.std.proofs.lemmas.List.{drop-drop}
use Rattle.nesting.specs.Foreach.{dealt}
use Rattle.nesting.proofs.Assigning.{all_set, leaves_as, leaves_fault, leaves_more, next_dealt}
use Rattle.nesting.proofs.pair.assign_all.Goals as goal

pub returns-in-Some-clause-assigns : goal.returns-in-Some-clause-assigns
returns-in-Some-clause-assigns g c = λ s fits.
    let names = c.args.names.now in
    let i = c.loop-name.name-index in
    let word = c.as_slice.result.now in
    let value = c.take_first-element.result in
    let left = c.take_first-element.new.elements.items in
    let behind = dealt (drop (i + 1) names) left in
    let lt : i < length names = search rules in
    let l = leaves_as _ s _ _ _
    (next_dealt names i c.name-item.result word value c.loop-name.elements.items left lt
    c.name-item.is c.as_slice.ensures c.take_first-element.ensures.first
    c.take_first-element.ensures.rest)
    (c.loop-name.invariant.leaves s fits) in
    leaves_fault c.loop-name.state c.set.new.state s _ ((word, value) ∷ []) behind
    c.in_ok-fault.field-0 l c.in-Some.fault c.in-Some.is
    (c.in_ok-fault.ensures.assigns l.status l.fits)

pub loop-name-preserved : goal.loop-name-preserved
loop-name-preserved g c =
    let names = c.args.names.now in
    let i = c.loop-name.name-index in
    let word = c.as_slice.result.now in
    let value = c.take_first-element.result in
    let left = c.take_first-element.new.elements.items in
    let behind = dealt (drop (i + 1) names) left in
    let lt : i < length names = search rules in
    record {
      leaves = λ s fits.
          let l = leaves_as _ s _ _ _
          (next_dealt names i c.name-item.result word value c.loop-name.elements.items left lt
          c.name-item.is c.as_slice.ensures c.take_first-element.ensures.first
          c.take_first-element.ensures.rest)
          (c.loop-name.invariant.leaves s fits) in
          leaves_more c.loop-name.state c.set.new.state s _ ((word, value) ∷ []) behind
          c.in_ok-fault.field-0 l c.in_default.is (c.in_ok-fault.ensures.assigns l.status l.fits);
      elements = c.take_first-element.ensures.rest
          ∙ ap (λ es. drop 1 es) c.loop-name.invariant.elements
          ∙ drop-drop 1 i c.args.elements.now.items;
      left = search rules;
    }

pub returns-clause-assigns : goal.returns-clause-assigns
returns-clause-assigns g c = λ s fits.
    let names = c.args.names.now in
    all_set _ s _ _
    (ap (λ ns. dealt ns c.loop-name.elements.items)
    (drop_of_length-le names c.loop-name-test.false))
    (c.loop-name.invariant.leaves s fits)
