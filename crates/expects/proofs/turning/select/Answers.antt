use Rattle.expects.proofs.Comings.{on_ok}
use Rattle.expects.proofs.Selecting.{selected_by}
use Rattle.expects.proofs.Selecting.{makes_one}
use Rattle.expects.proofs.turning.select.Goals as goal

pub returns-clause-selects : goal.returns-clause-selects
returns-clause-selects g c = λ s fits.
    let same = c.pairs.ensures in
    on_ok c.select.result (λ choice made.
    selected_by choice c.args.trigger c.args.effective.now.pairs c.args.state.now c.select.new.self
    s fits made c.select.ensures.next)
    (rw same at c.select.ensures.selects)

pub returns-clause-some : goal.returns-clause-some
returns-clause-some g c =
    let same = c.pairs.ensures in
    on_ok c.select.result (λ choice made.
    makes_one choice c.args.trigger c.args.effective.now.pairs
    c.args.state.now.ids.table.lines c.select.new.self.lines made)
    (rw same at c.select.ensures.selects)
