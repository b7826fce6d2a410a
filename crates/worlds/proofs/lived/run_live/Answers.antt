use Rattle.recorders.specs.Recorder.{MayRecord}
use Rattle.worlds.specs.Lived.{Steps}
use Rattle.worlds.specs.Runs.{Heard}
use Rattle.worlds.proofs.Seen.{runs_seen}
use Rattle.worlds.proofs.lived.run_live.Goals as goal

pub returns-in-Ok : goal.returns-in-Ok
returns-in-Ok g c =
    let (begun, begins, runs) = c.run_over_by.ensures in (
      begun,
      begins,
      runs_seen _ (MayRecord (Steps g.O.Sink.adds g.E.Sink.adds) g.S.Sink.adds g.S.Sink.has_failed)
          (λ pair. (pair.0.1, pair.1)) (λ before act reply after step. (step.0.0, step.1))
          (Heard g.X.Runner.told c.args.runner.now c.run_over_by.new.runner)
          c.args.script.now c.args.args.now c.args.limits.ticks (_, begun)
          (_, c.run_over_by.new.made) c.run_over_by.result runs,
    )
