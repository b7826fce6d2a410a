use Rattle.std.proofs.Common.{◌≡◌, ◌∙◌, ◌+◌, ◌≤◌, drop, length, Some, sym, ap, rules, arith}
use Rattle.nesting.proofs.Calling.{all_given, ended_given, next_given, none_given}
use Rattle.nesting.specs.Calls.{taken, values_of}
use Rattle.state.proofs.Lists.{split_at}
use Rattle.tclstate.specs.Pairs.{put}
use Rattle.tclstate.specs.Scopes.{Text}
use Rattle.nesting.proofs.calls.bind_all.Goals as goal

pub loop-formal-preserved : goal.loop-formal-preserved
loop-formal-preserved g c =
    let all = c.split-takes_rest.result.0.now in
    let more = c.split-takes_rest.result.1 in
    let i = c.loop-formal.formal-index in
    let f = c.formal-item.result in
    let words = c.loop-formal.rest.now in
    let frame = c.loop-formal.frame in
    let value = c.in-Some.value in
    let some : taken f words ≡ Some value = sym c.in_ok-value.ensures ∙ c.in-Some.is in
    let bound : c.bind.new.self ≡ put frame f.name (Text value) =
    c.in_ok-bind.ensures.ok
    ∙ ap (λ name. put frame name (Text value))
    (c.as_slice.ensures ∙ ap (λ x. x.name) c.formal.view_is) in
    c.loop-formal.invariant
    ∙ ap (λ fs. all_given (values_of more fs words) frame)
    (split_at all i f c.loop-formal-test.true c.formal-item.is)
    ∙ next_given more f (drop (i + 1) all) words frame value some
    ∙ (λ j. all_given (values_of more (drop (i + 1) all) (sym c.behind-rest.ensures j))
    (sym bound j))

pub returns : goal.returns
returns g c =
    let all = c.split-takes_rest.result.0.now in
    let more = c.split-takes_rest.result.1 in
    let i = c.loop-formal.formal-index in
    let over : length all ≤ i = search (rules, arith) in
    c.loop-formal.invariant
    ∙ ended_given more all i c.loop-formal.rest.now c.loop-formal.frame over
    ∙ c.in_ok-bind_rest.ensures

pub returns-in_default : goal.returns-in_default
returns-in_default g c =
    let all = c.split-takes_rest.result.0.now in
    let more = c.split-takes_rest.result.1 in
    let i = c.loop-formal.formal-index in
    let f = c.formal-item.result in
    let words = c.loop-formal.rest.now in
    let frame = c.loop-formal.frame in
    c.loop-formal.invariant
    ∙ ap (λ fs. all_given (values_of more fs words) frame)
    (split_at all i f c.loop-formal-test.true c.formal-item.is)
    ∙ none_given more f (drop (i + 1) all) words frame (sym c.in_ok-value.ensures ∙ c.in_default.is)
