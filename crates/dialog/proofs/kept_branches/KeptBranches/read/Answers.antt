use Rattle.std.proofs.Common.{Ok, subst, sym}
use Rattle.dialog.proofs.Elsewhere.{says_always}
use Rattle.choices.specs.Branches.{Branches}
use Rattle.readings.specs.Reads.{IsRead, place}
use Rattle.dialog.proofs.kept_branches.KeptBranches.read.Goals as goal

pub keep-requires : goal.keep-requires
keep-requires g c =
    let at = place c.args.table.now.lines c.args.current c.args.standing in
    let is_read : IsRead at c.args.words.now (Ok c.in_ok-branches-2.branches.value) =
    subst (λ (b : Branches). IsRead at c.args.words.now (Ok b)) (sym c.in_ok-branches-2.ensures)
    c.in_ok-branches.ensures.branches in
    says_always c.args.table.now.lines c.args.current c.args.standing c.args.words.now
    c.in_ok-branches-2.branches.value is_read
