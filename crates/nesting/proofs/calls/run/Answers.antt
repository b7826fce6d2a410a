use Rattle.std.proofs.Common.{◌≡◌, ◌∙◌, suc, sym, ap, rules, arith}
use Rattle.nesting.specs.Calls as definition
use Rattle.nesting.proofs.Nestings.{nests_from, on_ok, script_nests}
use Rattle.state.proofs.Fits.{scopes_fit}
use Rattle.state.proofs.Inside.{inside_over}
use Rattle.state.specs.Prelude.{inside, Status}
use Rattle.tclstate.specs.Scopes.{entered}
use Rattle.nesting.proofs.calls.run.Goals as goal

pub returns-in_default-clause-nests : goal.returns-in_default-clause-nests
returns-in_default-clause-nests g c = λ s fits.
    let new = c.enter.new.self in
    let levels = c.args.levels in
    let tree = c.args.body in
    let there : Status = record s { scopes = new } in
    let zero : levels ≡ 0 = search (rules, arith) in
    let on : entered c.args.frame s.scopes ≡ new =
    ap (λ scopes. entered c.args.frame scopes) fits.scopes ∙ sym c.in_ok-enter.ensures.ok in
    on_ok c.resumed.result (λ n nests.
    nests_from definition.next_of c.resumed.new.state n _ _
    (ap (λ scopes. inside levels tree (record s { scopes = scopes }) definition.returned) on
    ∙ inside_over levels tree there definition.returned zero
    ∙ ap (λ o. definition.returned there o) (sym c.in_ok-outcome.ensures))
    nests)
    (c.resumed.ensures.nests there (scopes_fit c.args.state.now s fits new))

pub returns-clause-nests : goal.returns-clause-nests
returns-clause-nests g c = λ s fits.
    let new = c.enter.new.self in
    let levels = c.args.levels in
    let tree = c.args.body in
    let there : Status = record s { scopes = new } in
    let deeper : levels ≡ suc c.in-Some.inner = search (rules, arith) in
    let on : entered c.args.frame s.scopes ≡ new =
    ap (λ scopes. entered c.args.frame scopes) fits.scopes ∙ sym c.in_ok-enter.ensures.ok in
    nests_from definition.next_of _ _ _ _
    (ap (λ scopes. inside levels tree (record s { scopes = scopes }) definition.returned) on)
    (script_nests definition.next_of _ c.args.body levels c.in-Some.inner _ there
    (scopes_fit c.args.state.now s fits new) deeper)
