use Rattle.std.proofs.Common.{[], ◌∷◌, refl, subst, sym}
use Rattle.std.specs.Time.{instant_nanos}
use Rattle.live.specs.Calls.{Now}
use Rattle.live.specs.Waiting.{Starts}
use Rattle.live.proofs.Turns.{runs_out_so}
use Rattle.live.proofs.waiting.time_from.Goals as goal

pub returns-in_ok-now-in-Start : goal.returns-in_ok-now-in-Start
returns-in_ok-now-in-Start g c =
    let nanos = instant_nanos c.in_ok-now-in-Start.now in
    let calls = Now nanos ∷ [] in (
      calls,
      (c.now.new.self, c.in_ok-now-in-Start.ensures, refl),
      ((nanos, refl), tt),
      subst (λ t. Starts t c.args.earlier c.checked_add.result calls) (sym c.in-Start.is) (
        nanos,
        [],
        refl,
        runs_out_so nanos c.in-Start.seconds _ c.checked_add.result c.from_secs.ensures
            c.checked_add.ensures.variant c.checked_add.ensures.some,
      ),
    )
