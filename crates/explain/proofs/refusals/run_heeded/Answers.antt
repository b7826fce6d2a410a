use Rattle.worlds.specs.Runs.{Heard}
use Rattle.worlds.proofs.Seen.{recorded_seen, runs_kept}
use Rattle.explain.proofs.refusals.run_heeded.Goals as goal

pub returns-clause-same_world : goal.returns-clause-same_world
returns-clause-same_world g c =
    let (begun, begins, runs) = c.run_seen.ensures in
    runs_kept _ (λ pair. pair.0.world.ghost_name) (λ before act reply after step. step.0.1)
    (Heard g.T.Watch.told c.args.watch.now c.run_seen.new.watch) c.args.script.now
    c.args.args.now c.args.limits.ticks (c.args.world.now, begun)
    (c.run_seen.new.world, c.run_seen.new.made) c.run_seen.result runs

pub returns-clause-runs : goal.returns-clause-runs
returns-clause-runs g c =
    recorded_seen _ g.W.World.step (λ world. world.world.now)
    (λ before act reply after step. step.0) g.S.Sink.adds g.S.Sink.has_failed
    (Heard g.T.Watch.told c.args.watch.now c.run_seen.new.watch) c.args.script.now
    c.args.args.now c.args.limits.ticks c.args.world.now c.run_seen.new.world c.args.made.now
    c.run_seen.new.made c.run_seen.result c.run_seen.ensures
