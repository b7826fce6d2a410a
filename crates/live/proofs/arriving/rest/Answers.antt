use Rattle.live.proofs.Turns.{paused_endless, paused_for}
use Rattle.live.proofs.arriving.rest.Goals as goal

pub returns-in_ok-pause-in-For-clause-rests : goal.returns-in_ok-pause-in-For-clause-rests
returns-in_ok-pause-in-For-clause-rests g c =
    paused_for g.S.System.step _ _ _ c.args.timer _ _ (rw c.in-For.is at c.in_ok-time_left.ensures.leaves)
    c.in_ok-pause-in-For.ensures

pub returns-in_ok-pause-in-Endless-clause-rests : goal.returns-in_ok-pause-in-Endless-clause-rests
returns-in_ok-pause-in-Endless-clause-rests g c =
    paused_endless g.S.System.step _ _ _ c.args.timer _ (rw c.in-Endless.is at c.in_ok-time_left.ensures.leaves)
    c.in_ok-pause-in-Endless.ensures
