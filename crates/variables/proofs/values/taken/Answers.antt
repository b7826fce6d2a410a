use Rattle.std.proofs.Common.{refl, option_copied}
use Rattle.variables.proofs.Taken.{rewrites}
use Rattle.variables.proofs.values.taken.Goals as goal

pub returns-in-Ok : goal.returns-in-Ok
returns-in-Ok g c = (
  rw c.in-Ok.ensures.value refl,
  rewrites c.args.scopes.now c.take.new.self c.args.name.now (option_copied c.args.index)
      c.in-Ok.value c.in-Ok.ensures.value c.in-Ok.ensures.emptied,
)
