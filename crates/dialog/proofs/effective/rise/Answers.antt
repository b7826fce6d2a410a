use Rattle.std.proofs.Common.{rules}
use Rattle.dialog.proofs.Mentions.{rising}
use Rattle.dialog.proofs.effective.rise.Goals as goal

pub returns-in-Some : goal.returns-in-Some
returns-in-Some c = λ t.
    let it = rising c.in-Some.first.now c.in-Some.more.now (c.rise_after.ensures t) in
    search (rules, it)
