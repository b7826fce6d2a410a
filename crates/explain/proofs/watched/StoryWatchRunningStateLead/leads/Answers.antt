use Rattle.explain.specs.View.{told_of}
use Rattle.explain.proofs.Stories.{goes_on_by}
use Rattle.explain.proofs.watched.StoryWatchRunningStateLead.leads.Goals as goal

pub returns : goal.returns
returns g c =
    let (text, takes, all) = c.tell.ensures.tells in
    goes_on_by g.S.Sink.adds g.S.Sink.has_failed (told_of c.args.self.now) (told_of c.tell.new.self) text
    c.tell.ensures.same.0 c.tell.ensures.same.1 c.tell.ensures.lost takes
