use Rattle.std.proofs.Common.{◌≡◌, ◌<◌, length, true, is_some, arith, rules}
use Rattle.std.specs.List.{list_all}
use Rattle.tclparse.specs.Variable.{named}
use Rattle.code.proofs.each.names_of.Goals as goal

pub returns : goal.returns
returns g c =
    let names = c.in-Ok.names.items in
    let some : 0 < length names = search (rules, arith) in
    let good : list_all (λ w. is_some (named w)) names ≡ true = search rules in
    record { list = c.in-Ok.ensures.list; some = some; each = good }
