use Rattle.live.proofs.Exchanging.{exchanged_idle, exchanged_then, unless}
use Rattle.live.proofs.sending.hear.Goals as goal

pub returns-clause-exchanged : goal.returns-clause-exchanged
returns-clause-exchanged g c =
    unless c.stay.result _
    (exchanged_then g.S.System.step _ _ _ _ _ _ _ _ _ _ c.in_ok-found.ensures.reads
    (exchanged_idle g.S.System.step _ _ _ _ c.stay.ensures))
