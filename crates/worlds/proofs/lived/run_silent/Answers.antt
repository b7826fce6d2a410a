use Rattle.recorders.specs.Recorder.{MayRecord}
use Rattle.worlds.specs.Lived.{Steps}
use Rattle.worlds.specs.Runs.{Heard}
use Rattle.worlds.proofs.Lent.{gets_nothing}
use Rattle.worlds.proofs.Seen.{runs_seen}
use Rattle.worlds.proofs.lived.run_silent.Goals as goal

pub returns : goal.returns
returns g c =
    let (begun, begins, runs) = c.run.ensures in
    let writers : g.row.O.Denot × g.row.E.Denot = (c.args._out.now, c.args._err.now) in (
      begun,
      begins,
      runs_seen _ (MayRecord (Steps g.O.Sink.adds g.E.Sink.adds) g.S.Sink.adds g.S.Sink.has_failed)
          (λ pair. (writers, pair.1))
          (λ before act reply after step.
          let (out, err) = gets_nothing g.O.Sink.adds g.E.Sink.adds writers act reply step.0.1 in
          ((step.0.0, out, err), step.1))
          (Heard g.X.Runner.told c.args.runner.now c.run.new.self)
          c.args.script.now c.args.args.now c.args.limits.ticks (_, begun)
          (c.run.new.world, c.run.new.made) c.run.result runs,
    )
