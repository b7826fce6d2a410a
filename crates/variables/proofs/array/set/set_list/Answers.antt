use Rattle.std.proofs.Common.{ℕ, List, sym, subst}
use Rattle.kinds.proofs.Left.{once_fails, once_leaves}
use Rattle.kinds.proofs.Readings.{list_comes, no_list_finds}
use Rattle.kinds.specs.Readings.{Done, Found, Reading, elements}
use Rattle.tclstate.specs.Scopes.{Scopes}
use Rattle.tcltext.specs.Elements.{IsList}
use Rattle.variables.specs.Array.Set.{fills_evenly}
use Rattle.variables.proofs.array.set.set_list.Goals as goal

pub returns-in-Ok : goal.returns-in-Ok
returns-in-Ok g c =
    let name = c.args.name.now in
    let list = c.args.list.now in
    let v = c.args.scopes.now in
    let es = c.deref.result.now in
    let next : List (List ℕ) → Reading (Done Scopes) =
    λ found. Found (fills_evenly name list found v) in
    once_leaves (λ found. found) v (elements list) next c.fill_evenly.new.scopes es
    c.fill_evenly.result
    (list_comes list es (subst (λ es. IsList es list) (sym c.deref.ensures.value) c.in-Ok.ensures.list))
    c.fill_evenly.ensures

pub returns-in-Err : goal.returns-in-Err
returns-in-Err g c =
    let name = c.args.name.now in
    let list = c.args.list.now in
    let v = c.args.scopes.now in
    let next : List (List ℕ) → Reading (Done Scopes) =
    λ found. Found (fills_evenly name list found v) in
    once_fails {Y = List (List ℕ)} (λ found. found) v (elements list) next c.in-Err.why
    (no_list_finds list (λ found. found) c.in-Err.why c.in-Err.ensures.fault)
