use Rattle.std.proofs.Common.{ℕ, List, Ok, option_copied, refl, sym, subst}
use Rattle.std.specs.declared.vec.Vec.{Vec}
use Rattle.kinds.proofs.Left.{answers_leave, once_fails, once_leaves}
use Rattle.kinds.specs.Readings.{ComesTo, Done, Found, Reading}
use Rattle.tclstate.specs.Scopes.{Scopes}
use Rattle.variables.specs.Array.Get.{list_values}
use Rattle.variables.specs.Array.Indexes.{indexes}
use Rattle.variables.proofs.array.get.list.Goals as goal

pub returns-in-Ok : goal.returns-in-Ok
returns-in-Ok g c =
    let v = c.args.scopes.now in
    let name = c.args.name.now in
    let r = c.list_values.result in
    let es = c.deref.result.now in
    let all = indexes name (option_copied c.args.index) (option_copied c.args.pattern) v in
    let next : List (List ℕ) → Reading (Done Scopes) =
    λ found. Found (v, list_values name found v) in
    once_leaves (λ es. es) v all next v es r
    (subst (λ es. ComesTo all (Ok es)) (sym c.deref.ensures.value) c.in-Ok.ensures)
    (answers_leave r (list_values name es v) (next es) v refl c.list_values.ensures)

pub returns-in-Err : goal.returns-in-Err
returns-in-Err g c =
    let v = c.args.scopes.now in
    let name = c.args.name.now in
    let next : List (List ℕ) → Reading (Done Scopes) =
    λ found. Found (v, list_values name found v) in
    once_fails (λ (found : Vec (List ℕ) g.row.A.Denot). found.items) v
    (indexes name (option_copied c.args.index) (option_copied c.args.pattern) v) next
    c.in-Err.why c.in-Err.ensures
