use Rattle.std.proofs.Common.{refl}
use Rattle.kinds.proofs.Left.{answers_leave}
use Rattle.variables.specs.Info.{info}
use Rattle.commands.proofs.locals.call.Goals as goal

pub returns-in-Info : goal.returns-in-Info
returns-in-Info g c =
    rw c.in-Info.is
    (answers_leave c.begin-in-Info.result (info c.args.args.now c.args.scopes.now) _
    c.args.scopes.now refl c.begin-in-Info.ensures)
