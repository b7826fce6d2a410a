use Rattle.std.proofs.Common.{ℕ, List, Some, option_copied}
use Rattle.std.specs.Prelude.{reverse}
use Rattle.std.specs.declared.vec.Vec.{Vec}
use Rattle.kinds.proofs.Left.{once_fails, once_leaves}
use Rattle.kinds.specs.Readings.{Done, Found, Reading}
use Rattle.tclstate.specs.Scopes.{Scopes}
use Rattle.variables.specs.Array.Indexes.{indexes}
use Rattle.variables.specs.Array.Unset.{removes}
use Rattle.variables.proofs.array.unset.remove_matched.Goals as goal

pub returns-in-Ok : goal.returns-in-Ok
returns-in-Ok g c =
    let name = c.args.name.now in
    let v = c.args.scopes.now in
    let next : List (List ℕ) → Reading (Done Scopes) =
    λ found. Found (removes name (reverse found) v) in
    once_leaves (λ found. found.items) v
    (indexes name (option_copied c.args.index) (Some c.args.pattern.now) v) next
    c.remove_all.new.scopes c.in-Ok.indexes c.remove_all.result c.in-Ok.ensures
    c.remove_all.ensures

pub returns-in-Err : goal.returns-in-Err
returns-in-Err g c =
    let name = c.args.name.now in
    let v = c.args.scopes.now in
    let next : List (List ℕ) → Reading (Done Scopes) =
    λ found. Found (removes name (reverse found) v) in
    once_fails (λ (found : Vec (List ℕ) g.row.A.Denot). found.items) v
    (indexes name (option_copied c.args.index) (Some c.args.pattern.now) v) next
    c.in-Err.why c.in-Err.ensures
