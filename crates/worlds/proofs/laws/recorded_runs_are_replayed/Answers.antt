use Rattle.worlds.proofs.Replayed.{are_replayed}
use Rattle.worlds.proofs.laws.recorded_runs_are_replayed.Goals as goal

pub returns : goal.returns
returns g c =
    are_replayed g.W.World.step g.S.Sink.adds g.S.Sink.has_failed g.O.Sink.adds
    g.O.Sink.has_failed g.E.Sink.adds g.E.Sink.has_failed
