use Rattle.std.proofs.Common.{◌-◌, length, drop, take, option_copied, ap}
use Rattle.std.specs.Prelude.{if◌then◌else◌}
use Rattle.nesting.specs.Switch.{body_of, chosen, mode_of}
use Rattle.nesting.proofs.Choosing.{chosen_next, chosen_over, one_of, other_of}
use Rattle.state.proofs.Reaches.{same_reaches, then_reaches}
use Rattle.state.specs.Reaches.{here}
use Rattle.nesting.proofs.switch.chosen.Goals as goal

pub arms-init : goal.arms-init
arms-init g c = λ s next. here

pub returns-in-Ok-true : goal.returns-in-Ok-true
returns-in-Ok-true g c = λ s next.
    let mode = mode_of c.args.mode in
    let text = c.args.text.now in
    let rest = c.arms.rest.now in
    let more = take (length rest - 2) (drop 2 rest) in
    let one = next (body_of (take (length rest - 1) (drop 1 rest))) in
    let other = chosen mode text more s next in
    let came = rw c.in-Ok-true.is at c.in_ok-tried.ensures in
    then_reaches (c.arms.invariant s next)
    (then_reaches
    (same_reaches (chosen_next mode text s next rest c.pattern-item.result c.as_slice.result.now
    c.in-len2-up.len_at_least c.pattern-item.is c.as_slice.ensures))
    (then_reaches (came s (λ it_does. if it_does then one else other))
    (same_reaches (one_of c.in-Ok-true.field-0 one other (next (option_copied c.body_of.result))
    c.in-Ok-true.field-0-test (ap next c.body_of.ensures)))))

pub arms-preserved : goal.arms-preserved
arms-preserved g c = λ s next.
    let mode = mode_of c.args.mode in
    let text = c.args.text.now in
    let rest = c.arms.rest.now in
    let more = take (length rest - 2) (drop 2 rest) in
    let one = next (body_of (take (length rest - 1) (drop 1 rest))) in
    let other = chosen mode text more s next in
    let came = rw c.in-Ok-false.is at c.in_ok-tried.ensures in
    then_reaches (c.arms.invariant s next)
    (then_reaches
    (same_reaches (chosen_next mode text s next rest c.pattern-item.result c.as_slice.result.now
    c.in-len2-up.len_at_least c.pattern-item.is c.as_slice.ensures))
    (then_reaches (came s (λ it_does. if it_does then one else other))
    (same_reaches (other_of c.in-Ok-false.field-0 one other c.in-Ok-false.field-0-test))))

pub returns-in-Err : goal.returns-in-Err
returns-in-Err g c = λ s next.
    let mode = mode_of c.args.mode in
    let text = c.args.text.now in
    let rest = c.arms.rest.now in
    let more = take (length rest - 2) (drop 2 rest) in
    let one = next (body_of (take (length rest - 1) (drop 1 rest))) in
    let other = chosen mode text more s next in
    let came = rw c.in-Err.is at c.in_ok-tried.ensures in
    then_reaches (c.arms.invariant s next)
    (then_reaches
    (same_reaches (chosen_next mode text s next rest c.pattern-item.result c.as_slice.result.now
    c.in-len2-up.len_at_least c.pattern-item.is c.as_slice.ensures))
    (came s (λ it_does. if it_does then one else other)))

pub returns : goal.returns
returns g c = λ s next.
    then_reaches (c.arms.invariant s next)
    (same_reaches (chosen_over (mode_of c.args.mode) c.args.text.now s next c.arms.rest.now
    c.in_default.len_below))
