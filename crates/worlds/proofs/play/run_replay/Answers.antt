use Rattle.recorders.specs.Recorder.{MayRecord}
use Rattle.replays.specs.Replay.{ReplaysBy}
use Rattle.worlds.specs.Runs.{Heard}
use Rattle.worlds.proofs.Seen.{runs_kept, runs_seen}
use Rattle.worlds.proofs.play.run_replay.Goals as goal

pub returns-clause-same_recorded : goal.returns-clause-same_recorded
returns-clause-same_recorded g c =
    let (begun, begins, runs) = c.run.ensures in
    runs_kept _ (λ pair. pair.0.recorded.ghost_name) (λ before act reply after step. step.0.1)
    (Heard g.X.Runner.told c.args.runner.now c.run.new.self)
    c.args.script.now c.args.args.now c.args.limits.ticks (c.args.world.now, begun)
    (c.run.new.world, c.run.new.made) c.run.result runs

pub returns-clause-same_out : goal.returns-clause-same_out
returns-clause-same_out g c =
    let (begun, begins, runs) = c.run.ensures in
    runs_kept _ (λ pair. pair.0.out.ghost_name) (λ before act reply after step. step.0.2)
    (Heard g.X.Runner.told c.args.runner.now c.run.new.self)
    c.args.script.now c.args.args.now c.args.limits.ticks (c.args.world.now, begun)
    (c.run.new.world, c.run.new.made) c.run.result runs

pub returns-clause-same_err : goal.returns-clause-same_err
returns-clause-same_err g c =
    let (begun, begins, runs) = c.run.ensures in
    runs_kept _ (λ pair. pair.0.err.ghost_name) (λ before act reply after step. step.0.3)
    (Heard g.X.Runner.told c.args.runner.now c.run.new.self)
    c.args.script.now c.args.args.now c.args.limits.ticks (c.args.world.now, begun)
    (c.run.new.world, c.run.new.made) c.run.result runs

pub returns-clause-runs : goal.returns-clause-runs
returns-clause-runs g c =
    let (begun, begins, runs) = c.run.ensures in (
      begun,
      begins,
      runs_seen _ (MayRecord (ReplaysBy g.O.Sink.adds g.O.Sink.has_failed g.E.Sink.adds
          g.E.Sink.has_failed g.R.Answerer.answers) g.S.Sink.adds g.S.Sink.has_failed)
          (λ pair. ((pair.0.recorded.now, (pair.0.out.now, pair.0.err.now)), pair.1))
          (λ before act reply after step. (step.0.0, step.1))
          (Heard g.X.Runner.told c.args.runner.now c.run.new.self)
          c.args.script.now c.args.args.now c.args.limits.ticks (c.args.world.now, begun)
          (c.run.new.world, c.run.new.made) c.run.result runs,
    )
