use Rattle.recorders.specs.Recorder.{MayRecord}
use Rattle.worlds.specs.Runs.{Heard}
use Rattle.worlds.proofs.Seen.{heard_of, runs_kept, runs_seen}
use Rattle.worlds.proofs.recorded.run_lent.Goals as goal

pub returns-clause-same_world : goal.returns-clause-same_world
returns-clause-same_world g c =
    let runs =
    heard_of _ g.T.Watch.told c.args.script.now c.args.args.now c.args.limits.ticks
    (c.args.recorder.now, c.args.watch.now) (c.run_watched.new.world, c.run_watched.new.watch)
    c.run_watched.result c.run_watched.ensures.ran c.run_watched.ensures.began in
    runs_kept _ (λ recorder. recorder.world.ghost_name) (λ before act reply after step. step.1)
    (Heard g.T.Watch.told c.args.watch.now c.run_watched.new.watch) c.args.script.now
    c.args.args.now c.args.limits.ticks c.args.recorder.now c.run_watched.new.world
    c.run_watched.result runs

pub returns-clause-same_made : goal.returns-clause-same_made
returns-clause-same_made g c =
    let runs =
    heard_of _ g.T.Watch.told c.args.script.now c.args.args.now c.args.limits.ticks
    (c.args.recorder.now, c.args.watch.now) (c.run_watched.new.world, c.run_watched.new.watch)
    c.run_watched.result c.run_watched.ensures.ran c.run_watched.ensures.began in
    runs_kept _ (λ recorder. recorder.made.ghost_name) (λ before act reply after step. step.2)
    (Heard g.T.Watch.told c.args.watch.now c.run_watched.new.watch) c.args.script.now
    c.args.args.now c.args.limits.ticks c.args.recorder.now c.run_watched.new.world
    c.run_watched.result runs

pub returns-clause-runs : goal.returns-clause-runs
returns-clause-runs g c =
    let runs =
    heard_of _ g.T.Watch.told c.args.script.now c.args.args.now c.args.limits.ticks
    (c.args.recorder.now, c.args.watch.now) (c.run_watched.new.world, c.run_watched.new.watch)
    c.run_watched.result c.run_watched.ensures.ran c.run_watched.ensures.began in
    runs_seen _ (MayRecord g.W.World.step g.S.Sink.adds g.S.Sink.has_failed)
    (λ recorder. (recorder.world.now, recorder.made.now)) (λ before act reply after step. step.0)
    (Heard g.T.Watch.told c.args.watch.now c.run_watched.new.watch) c.args.script.now
    c.args.args.now c.args.limits.ticks c.args.recorder.now c.run_watched.new.world
    c.run_watched.result runs
