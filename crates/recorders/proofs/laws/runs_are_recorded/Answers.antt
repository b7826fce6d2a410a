use Rattle.recorders.proofs.Recorded.{is_recorded, is_whole_record, may_be_recorded}
use Rattle.recorders.proofs.laws.runs_are_recorded.Goals as goal

pub returns-clause-steps : goal.returns-clause-steps
returns-clause-steps g c = is_recorded g.W.World.step g.S.Sink.adds g.S.Sink.has_failed

pub returns-clause-whole : goal.returns-clause-whole
returns-clause-whole g c = is_whole_record g.W.World.step g.S.Sink.adds g.S.Sink.has_failed

pub returns-clause-lent : goal.returns-clause-lent
returns-clause-lent g c = may_be_recorded g.W.World.step g.S.Sink.adds g.S.Sink.has_failed
