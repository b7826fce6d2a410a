use Rattle.replays.proofs.Reels.{are_replays}
use Rattle.replays.proofs.laws.reels_are_replays.Goals as goal

pub returns : goal.returns
returns g c =
    are_replays g.S.Source.gives g.S.Source.gives_up g.S.Source.most g.O.Sink.adds
    g.O.Sink.has_failed g.E.Sink.adds g.E.Sink.has_failed
