use Rattle.std.proofs.Common.{◌∙◌, ap, option_copied}
use Rattle.variables.proofs.Taking.{matched_indexes}
use Rattle.variables.proofs.array.indexes.indexes.Goals as goal

pub returns-in-Some : goal.returns-in-Some
returns-in-Some g c =
    let v = c.args.scopes.now in
    matched_indexes c.matched.result c.args.name.now (option_copied c.args.index)
    c.in-Some.pattern.now c.deref.result.now (option_copied c.args.pattern) v
    (c.deref.ensures.value ∙ c.in_ok-all.ensures) (ap option_copied c.in-Some.is)
    c.matched.ensures
