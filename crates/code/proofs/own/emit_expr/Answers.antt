use Rattle.std.proofs.Common.{rules}
use Rattle.code.proofs.Evals.{expr_block}
use Rattle.code.proofs.own.emit_expr.Goals as goal

pub returns : goal.returns
returns g c = λ text is.
    expr_block c.args.code.now.items c.put_expression.new.code.items c.push.new.self.items text
    c.args.joined.now is (search rules) (search rules)
