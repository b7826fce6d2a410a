use Rattle.std.proofs.Common.{ap, arith}
use Rattle.steps.proofs.Quiet.{entry_begun}
use Rattle.steps.proofs.Runs.{entry_awaits}
use Rattle.steps.proofs.run.Run.begin.Goals as goal

pub returns-clause-awaits : goal.returns-clause-awaits
returns-clause-awaits g c = λ last s outcome.
    entry_awaits c.in_ok-code.code.value.items last c.args.it c.args.levels _
    (omega (arith, c.ranges.levels.fits)) c.in_ok-code.ensures c.first-spot.ensures s outcome

pub returns-clause-begun : goal.returns-clause-begun
returns-clause-begun g c =
    entry_begun c.args.it (record { code = c.in_ok-code.code; spot = c.first-spot.result })
    c.in_ok-code.ensures (ap (λ spot. spot.place) c.first-spot.ensures)
    (ap (λ spot. spot.handlers) c.first-spot.ensures)
