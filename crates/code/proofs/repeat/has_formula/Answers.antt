use Rattle.std.proofs.Common.{subst}
use Rattle.formulas.specs.Reads.{ReadsFormula}
use Rattle.code.proofs.Doings.{is_formula, no_formula}
use Rattle.code.proofs.repeat.has_formula.Goals as goal

pub returns-in-Ok : goal.returns-in-Ok
returns-in-Ok g c =
    is_formula c.args.text.now c.read.result c.in-Ok._formula c.in-Ok.is
    (subst (λ text. ReadsFormula text c.read.result) c.as_slice.ensures c.read.ensures)

pub returns-in-Err-Fault : goal.returns-in-Err-Fault
returns-in-Err-Fault g c =
    no_formula c.args.text.now c.read.result c.in-Err-Fault.field-0 c.in-Err-Fault._fault
    c.in-Err-Fault.is c.in-Err-Fault.field-0-is
    (subst (λ text. ReadsFormula text c.read.result) c.as_slice.ensures c.read.ensures)
