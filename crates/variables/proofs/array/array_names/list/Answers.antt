use Rattle.std.proofs.Common.{ℕ, List, Ok, option_copied, rules}
use Rattle.std.specs.declared.vec.Vec.{Vec}
use Rattle.kinds.proofs.Left.{once_fails, once_leaves}
use Rattle.kinds.specs.Readings.{Done, Found, Leaves, Reading}
use Rattle.tclstate.specs.Scopes.{Scopes}
use Rattle.tcltext.specs.Canonical.{canonical}
use Rattle.variables.specs.Array.Indexes.{indexes}
use Rattle.variables.proofs.array.array_names.list.Goals as goal

pub returns-in_ok-list-in-Ok : goal.returns-in_ok-list-in-Ok
returns-in_ok-list-in-Ok g c =
    let v = c.args.scopes.now in
    let found = c.in-Ok.indexes in
    let value = c.in_ok-list-in-Ok.field-0 in
    let next : List (List ℕ) → Reading (Done Scopes) = λ found. Found (v, Ok (canonical found)) in
    let listed : Leaves {A = g.row.A.Denot} (next found.items) (Ok value) v = search rules in
    once_leaves {A = g.row.A.Denot} (λ (found : Vec (List ℕ) g.row.A.Denot). found.items) v
    (indexes c.args.name.now (option_copied c.args.index) (option_copied c.args.pattern) v) next
    v found (Ok value) c.in-Ok.ensures listed

pub returns-in-Err : goal.returns-in-Err
returns-in-Err g c =
    let v = c.args.scopes.now in
    let next : List (List ℕ) → Reading (Done Scopes) = λ found. Found (v, Ok (canonical found)) in
    once_fails (λ (found : Vec (List ℕ) g.row.A.Denot). found.items) v
    (indexes c.args.name.now (option_copied c.args.index) (option_copied c.args.pattern) v) next
    c.in-Err.why c.in-Err.ensures
