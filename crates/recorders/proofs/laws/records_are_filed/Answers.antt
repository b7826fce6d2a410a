use Rattle.recorders.proofs.Filed.{is_filed}
use Rattle.recorders.proofs.laws.records_are_filed.Goals as goal

pub returns : goal.returns
returns g c = is_filed g.S.Sink.adds g.W.World.step
