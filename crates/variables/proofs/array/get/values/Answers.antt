use Rattle.std.proofs.Common.{◌≡◌, ◌∙◌, ℕ, ◌+◌, List, [], ◌∷◌, ◌++◌, drop, Some, Ok, Result, ap, rules}
use Rattle.acts.specs.Flaw.{Flaw}
use Rattle.acts.specs.Raise.{bind}
use Rattle.kinds.specs.Variables.{value_of}
use Rattle.state.proofs.Lists.{split_at}
use Rattle.variables.proofs.Indexed.{one_more}
use Rattle.variables.specs.Array.Get.{values}
use Rattle.variables.proofs.array.get.values.Goals as goal

pub loop-index-preserved : goal.loop-index-preserved
loop-index-preserved g c =
    let name = c.args.name.now in
    let v = c.args.scopes.now in
    let all = c.args.indexes.now in
    let i = c.loop-index.index-index in
    let had = c.loop-index.elements.items in
    let read : List (List ℕ) → Result (List (List ℕ)) Flaw = λ more. Ok (had ++ more) in
    let t = c.index-item.result in
    let value = c.in_ok-value.value.now in
    let now = c.push_element.new.elements.items in
    let is : value_of name (Some t) v ≡ Ok value = search rules in
    let pushed : now ≡ had ++ t ∷ value ∷ [] = search rules in
    c.loop-index.invariant
    ∙ ap (λ ts. bind (values name ts v) read)
    (split_at all i t c.loop-index-test.true c.index-item.is)
    ∙ one_more name v t value (drop (i + 1) all) had now is pushed
