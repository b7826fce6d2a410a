use Rattle.std.proofs.Common.{option_copied}
use Rattle.variables.proofs.Taken.{put_back}
use Rattle.variables.proofs.values.put_back.Goals as goal

pub returns : goal.returns
returns g c = λ before back.
    put_back before c.args.scopes.now c.args.name.now (option_copied c.args.index) c.args.value back
    c.put.new.scopes c.put.result c.put.ensures
