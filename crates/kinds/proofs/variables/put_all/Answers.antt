use Rattle.std.proofs.Common.{subst}
use Rattle.kinds.proofs.PutAll.{fails_all}
use Rattle.kinds.proofs.variables.put_all.Goals as goal
use Rattle.kinds.specs.Answers.{IsTroubled}
use Rattle.tclstate.specs.InTurn.{elements_in}

pub returns-in-Err : goal.returns-in-Err
returns-in-Err g c =
    let first =
    subst (λ index. IsTroubled c.troubled.result c.in-Err.error c.args.name.now index)
    c.first_index-first.ensures c.troubled.ensures in
    fails_all c.args.name.now c.args.scopes.now c.set_elements.new.self (Unit {0})
    (elements_in c.args.elements.now) c.troubled.result c.in-Err.error c.in-Err.ensures.trouble
    c.in-Err.ensures.left first
