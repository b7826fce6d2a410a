use Rattle.std.proofs.Common.{◌≡◌, [], Some, None, Ok, option_copied, rules}
use Rattle.variables.proofs.Lists.{canonical_list, held_list, missing_list, unheld}
use Rattle.variables.specs.Values.{held}
use Rattle.variables.proofs.lappend.list_in.Goals as goal

pub returns-in-Ok-Some-clause-list : goal.returns-in-Ok-Some-clause-list
returns-in-Ok-Some-clause-list g c =
    let name = c.args.name.now in
    let index = option_copied c.args.index in
    let v = c.args.scopes.now in
    let is : held name index v ≡ Ok (Some c.in-Ok-Some.text.now) = search rules in
    held_list name index v c.in-Ok-Some.text.now c.list_of.result c.list_of.ensures.list
    c.list_of.ensures.fault is

pub returns-in-Ok-None-clause-list : goal.returns-in-Ok-None-clause-list
returns-in-Ok-None-clause-list g c =
    let name = c.args.name.now in
    let index = option_copied c.args.index in
    let v = c.args.scopes.now in
    let is : held name index v ≡ Ok None = search rules in
    missing_list name index v g.row.A.Denot c.empty.result c.empty.ensures is

pub returns-in-Err-clause-list : goal.returns-in-Err-clause-list
returns-in-Err-clause-list g c =
    unheld c.args.name.now (option_copied c.args.index) c.args.scopes.now c.in-Err.why
    c.in-Err.ensures

pub returns-in-Ok-Some-clause-canonical : goal.returns-in-Ok-Some-clause-canonical
returns-in-Ok-Some-clause-canonical g c =
    canonical_list c.in-Ok-Some.text.now c.list_of.result c.list_of.ensures.list

pub returns-in-Ok-None-clause-canonical : goal.returns-in-Ok-None-clause-canonical
returns-in-Ok-None-clause-canonical g c = ([], c.empty.ensures)
