use Rattle.std.proofs.Common.{◌∙◌, sym, arith}
use Rattle.acts.specs.Deed.{deed_of, reply_of}
use Rattle.explain.specs.View.{told_of}
use Rattle.explain.proofs.Stories.{goes_on_with, tells_lines}
use Rattle.explain.proofs.watched.StoryWatchRunningStateLead.answers.Goals as goal

pub returns : goal.returns
returns g c =
    let (text, takes, all) = c.tell.ensures.tells in
    let deed = deed_of c.args.act.now in
    let reply = reply_of c.args.answer.now in
    let count = c.saturating_add-self.ensures in
    let same = c.tell.ensures.same in
    goes_on_with g.S.Sink.adds g.S.Sink.has_failed (told_of c.args.self.now) (told_of c.tell.new.self)
    text deed reply (omega (arith, count, same.0)) same.1 c.tell.ensures.lost takes
    (λ whole kept. tells_lines deed reply text _ c.answers-told.result
    (c.answers-told.ensures.whole (sym same.1 ∙ whole)) (all kept))
