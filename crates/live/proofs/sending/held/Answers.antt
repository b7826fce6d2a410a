use Rattle.live.proofs.Exchanging.{poll_idles}
use Rattle.live.proofs.sending.held.Goals as goal

pub returns-in_err-takes_soon : goal.returns-in_err-takes_soon
returns-in_err-takes_soon g c =
    poll_idles g.S.System.step _ _ _ c.takes_soon.result c.takes_soon.ensures

pub returns-then-branch : goal.returns-then-branch
returns-then-branch g c =
    poll_idles g.S.System.step _ _ _ c.takes_soon.result c.takes_soon.ensures

pub returns-else-branch : goal.returns-else-branch
returns-else-branch g c =
    poll_idles g.S.System.step _ _ _ c.takes_soon.result c.takes_soon.ensures
