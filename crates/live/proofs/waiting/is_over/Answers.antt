use Rattle.live.proofs.Turns.{leaves_asks}
use Rattle.live.proofs.waiting.is_over.Goals as goal

pub returns-in-For-clause-shows : goal.returns-in-For-clause-shows
returns-in-For-clause-shows g c =
    leaves_asks g.S.System.step _ _ _ _ c.in_ok-time_left.field-0 c.in_ok-time_left.ensures.leaves
