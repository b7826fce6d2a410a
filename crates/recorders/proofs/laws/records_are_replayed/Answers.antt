use Rattle.recorders.proofs.Replayed.{is_replayed}
use Rattle.recorders.proofs.laws.records_are_replayed.Goals as goal

pub returns : goal.returns
returns g c = is_replayed g.O.Sink.adds g.O.Sink.has_failed g.E.Sink.adds g.E.Sink.has_failed
