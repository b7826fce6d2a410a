use Rattle.std.proofs.Common.{List, ℕ, ◌++◌, option_copied, refl}
use Rattle.kinds.proofs.Left.{keeps_leave, once_fails, once_leaves}
use Rattle.kinds.specs.Readings.{Done, Reading, Found, kept}
use Rattle.tclstate.specs.Scopes.{Scopes}
use Rattle.tcltext.specs.Canonical.{canonical}
use Rattle.variables.proofs.Lists.{unlisted}
use Rattle.variables.specs.Lappend.{elements_in}
use Rattle.variables.specs.Values.{puts}
use Rattle.variables.proofs.lappend.extend.Goals as goal

pub returns-in-Ok : goal.returns-in-Ok
returns-in-Ok g c =
    let name = c.args.name.now in
    let index = option_copied c.args.index in
    let more = c.args.more.now in
    let v = c.args.scopes.now in
    let new = c.put.new.scopes in
    let next : List (List ℕ) → Reading (Done Scopes) =
    λ had. Found (kept v (puts name index (canonical (had ++ more)) v)) in
    let is = c.in-Ok.ensures.canonical in
    once_leaves (λ es. es) v (elements_in name index v) next new is.0 c.put.result
    (c.in-Ok.ensures.list is.0 is.1)
    (keeps_leave c.put.result (puts name index (canonical (is.0 ++ more)) v) (next is.0) v new refl
    (c.put.ensures is.0 is.1))

pub returns-in-Err : goal.returns-in-Err
returns-in-Err g c =
    let name = c.args.name.now in
    let index = option_copied c.args.index in
    let v = c.args.scopes.now in
    let next : List (List ℕ) → Reading (Done Scopes) =
    λ had. Found (kept v (puts name index (canonical (had ++ c.args.more.now)) v)) in
    once_fails (λ es. es) v (elements_in name index v) next c.in-Err.why
    (unlisted name index v c.in-Err.why c.in-Err.ensures.list)
