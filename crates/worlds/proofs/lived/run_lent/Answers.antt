use Rattle.recorders.specs.Recorder.{MayRecord}
use Rattle.worlds.specs.Lived.{Acts, open_in}
use Rattle.worlds.specs.Runs.{Heard}
use Rattle.worlds.proofs.Seen.{runs_kept, runs_seen}
use Rattle.worlds.proofs.lived.run_lent.Goals as goal

pub returns-clause-same_live : goal.returns-clause-same_live
returns-clause-same_live g c =
    let (begun, begins, runs) = c.run.ensures in
    runs_kept _ (λ pair. pair.0.live.ghost_name) (λ before act reply after step. step.0.1)
    (Heard g.X.Runner.told c.args.runner.now c.run.new.self)
    c.args.script.now c.args.args.now c.args.limits.ticks (c.args.world.now, begun)
    (c.run.new.world, c.run.new.made) c.run.result runs

pub returns-clause-same_out : goal.returns-clause-same_out
returns-clause-same_out g c =
    let (begun, begins, runs) = c.run.ensures in
    runs_kept _ (λ pair. pair.0.out.ghost_name) (λ before act reply after step. step.0.2)
    (Heard g.X.Runner.told c.args.runner.now c.run.new.self)
    c.args.script.now c.args.args.now c.args.limits.ticks (c.args.world.now, begun)
    (c.run.new.world, c.run.new.made) c.run.result runs

pub returns-clause-same_err : goal.returns-clause-same_err
returns-clause-same_err g c =
    let (begun, begins, runs) = c.run.ensures in
    runs_kept _ (λ pair. pair.0.err.ghost_name) (λ before act reply after step. step.0.3)
    (Heard g.X.Runner.told c.args.runner.now c.run.new.self)
    c.args.script.now c.args.args.now c.args.limits.ticks (c.args.world.now, begun)
    (c.run.new.world, c.run.new.made) c.run.result runs

pub returns-clause-runs : goal.returns-clause-runs
returns-clause-runs g c =
    let (begun, begins, runs) = c.run.ensures in (
      begun,
      begins,
      runs_seen _ (MayRecord (Acts g.O.Sink.adds g.E.Sink.adds g.Y.Log.Write.contents
          g.Y.System.holds g.Y.Program.Owned.owner g.Y.System.step g.Y.Link.Owned.owner)
          g.S.Sink.adds g.S.Sink.has_failed)
          (λ pair. (
            (
              open_in pair.0.live.now.system pair.0.live.now.log pair.0.live.now.peers
                  pair.0.live.now.programs.items,
              (pair.0.out.now, pair.0.err.now),
            ),
            pair.1,
          ))
          (λ before act reply after step. (step.0.0, step.1))
          (Heard g.X.Runner.told c.args.runner.now c.run.new.self)
          c.args.script.now c.args.args.now c.args.limits.ticks (c.args.world.now, begun)
          (c.run.new.world, c.run.new.made) c.run.result runs,
    )
