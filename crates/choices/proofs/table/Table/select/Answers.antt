use Rattle.std.proofs.Common.{Some, None, ap}
use Rattle.choices.specs.Choice.{chosen}
use Rattle.choices.proofs.Chosen.{makes_found, makes_met, met_at}
use Rattle.choices.proofs.Refused.{on_err}
use Rattle.choices.proofs.table.Table.select.Goals as goal

pub returns-in_err-choice-clause-refused : goal.returns-in_err-choice-clause-refused
returns-in_err-choice-clause-refused g c =
    on_err c.from_residual.result
    (chosen c.in-Some.pair.now (Some c.in-Some.found), c.in-Some.ensures.found)

pub returns-in-Some-clause-selects : goal.returns-in-Some-clause-selects
returns-in-Some-clause-selects g c =
    makes_found c.in_ok-choice.choice c.args.trigger c.args.pairs.now c.in-Some.pair.now
    c.in-Some.found c.args.self.now.lines c.first_found.new.self.lines c.choose.new.self.lines
    (ap (λ t. t.lines) c.in-Some.ensures.unchanged) c.in-Some.ensures.found
    c.in_ok-choice.ensures.body c.in_ok-choice.ensures.taken c.in_ok-choice.ensures.lines

pub returns-in_err-choice-2-clause-refused : goal.returns-in_err-choice-2-clause-refused
returns-in_err-choice-2-clause-refused g c =
    let same = ap (λ t. t.lines) c.in_default.ensures.unchanged in
    on_err c.from_residual-in_err-choice-2.result (
      chosen c.in-Some-first_met.pair.now None,
      (
        c.in_default.ensures.found,
        met_at c.first_found.new.self.lines c.args.self.now.lines c.args.trigger
            c.args.pairs.now c.in-Some-first_met.pair.now same c.in-Some-first_met.ensures,
      ),
    )

pub returns-clause-selects : goal.returns-clause-selects
returns-clause-selects g c =
    let same = ap (λ t. t.lines) c.in_default.ensures.unchanged in
    makes_met c.in_ok-choice-2.choice c.args.trigger c.args.pairs.now
    c.in-Some-first_met.pair.now c.args.self.now.lines c.first_found.new.self.lines
    c.choose-2.new.self.lines same c.in_default.ensures.found c.in-Some-first_met.ensures
    c.in_ok-choice-2.ensures.body c.in_ok-choice-2.ensures.taken c.in_ok-choice-2.ensures.lines
