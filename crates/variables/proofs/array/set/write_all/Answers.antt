use Rattle.std.proofs.Common.{◌∙◌, ◌-◌, ◌≤◌, Result, length, drop, take, ap, rules, arith}
use Rattle.state.specs.Prelude.{Flaw, Scopes}
use Rattle.variables.proofs.Elements.{writes_first}
use Rattle.variables.specs.Array.Set.{writes_all}
use Rattle.variables.specs.Unset.{onward}
use Rattle.variables.proofs.array.set.write_all.Goals as goal

pub elements-preserved : goal.elements-preserved
elements-preserved g c =
    let name = c.args.name.now in
    let rest = c.elements.rest.now in
    let v = c.elements.scopes in
    let two : 2 ≤ length rest = search (rules, arith) in
    let first = writes_first name rest v c.index-item.result c.value-item.result
    c.as_slice.result.now c.in_ok-share.field-0 two c.index-item.is c.value-item.is
    c.as_slice.ensures c.in_ok-share.ensures in
    c.elements.invariant ∙ first
    ∙ ap (λ (r : Result Scopes Flaw).
    onward r v (writes_all name (take (length rest - 2) (drop 2 rest)))) c.in_ok-put.ensures
