use Rattle.std.proofs.Common.{option_copied}
use Rattle.variables.proofs.Taken.{let_go_if}
use Rattle.variables.proofs.values.release.Goals as goal

pub returns : goal.returns
returns g c =
    let_go_if c.args.scopes.now c.take.new.self c.args.name.now (option_copied c.args.index)
    c.take.result c.take.ensures.value c.take.ensures.emptied c.take.ensures.unchanged
