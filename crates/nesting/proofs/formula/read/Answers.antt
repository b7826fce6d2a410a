use Rattle.nesting.proofs.Reading.{formula_reaches, no_formula_reaches}
use Rattle.nesting.proofs.formula.read.Goals as goal

pub returns-in-Ok : goal.returns-in-Ok
returns-in-Ok g c = λ s next.
    formula_reaches c.args.text.now s next c.in-Ok.formula c.in-Ok.ensures

pub returns-in-Err-Fault : goal.returns-in-Err-Fault
returns-in-Err-Fault g c = λ s next.
    no_formula_reaches c.args.text.now s next c.read.result c.in-Err-Fault.field-0
    c.in-Err-Fault.fault _ c.in-Err-Fault.is c.in-Err-Fault.field-0-is c.read.ensures
    c.no_formula.ensures
