use Rattle.live.proofs.Exchanging.{idles_then, poll_idles}
use Rattle.live.proofs.sending.stay.Goals as goal

pub returns-in_err-unseen-in-Silence : goal.returns-in_err-unseen-in-Silence
returns-in_err-unseen-in-Silence g c =
    poll_idles g.S.System.step _ _ _ c.peek.result c.peek.ensures

pub returns-in-Bytes-2 : goal.returns-in-Bytes-2
returns-in-Bytes-2 g c =
    idles_then g.S.System.step _ _ _
    (poll_idles g.S.System.step _ _ _ c.peek.result c.peek.ensures) c.held.ensures

pub returns-in_default : goal.returns-in_default
returns-in_default g c =
    idles_then g.S.System.step _ _ _
    (poll_idles g.S.System.step _ _ _ c.peek.result c.peek.ensures)
    (poll_idles g.S.System.step _ _ _ c.pause_to_write.result c.pause_to_write.ensures)

pub returns-in-Silence-2 : goal.returns-in-Silence-2
returns-in-Silence-2 g c =
    poll_idles g.S.System.step _ _ _ c.pause_to_write-in-Silence-2.result
    c.pause_to_write-in-Silence-2.ensures
