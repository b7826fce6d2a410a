use Rattle.std.proofs.Common.{◌-◌}
use Rattle.machine.specs.Phases.{IsTold}
use Rattle.machine.specs.View.{words_of}
use Rattle.runs.specs.Bounds.{most_acts}
use Rattle.engine.proofs.Worlds.{Watching}
use Rattle.engine.proofs.running.run_watched.Given as goal

abbrev pub invariant-acts : goal.invariant-acts
invariant-acts g l = record {
  told : IsTold l.session.phase;
  watching : Watching g.W.World.step g.T.Watch.told (l.fn.world, l.fn.watch) (l.world, l.watch)
      l.script (words_of l.args) l.fn.limits.ticks l.session;
}

-- how many acts a run may still make at most
abbrev pub decreases-acts : goal.decreases-acts
decreases-acts g l = most_acts l.fn.limits.ticks - l.session.answers
