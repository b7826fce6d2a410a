use Rattle.std.proofs.Common.{rules}
use Rattle.code.proofs.Inners.{formula_block}
use Rattle.formulas.specs.View.{formula_of}
use Rattle.code.proofs.inner.emit_expression.Goals as goal

pub returns-in_ok-emit_formula-in-Ok : goal.returns-in_ok-emit_formula-in-Ok
returns-in_ok-emit_formula-in-Ok g c =
    formula_block c.args.code.now.items c.emit_formula.new.code.items
    (formula_of c.in-Ok.formula) c.args.text.now (search rules) (search rules)
