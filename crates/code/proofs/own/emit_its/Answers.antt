use Rattle.code.proofs.Catches.{catch_own_block}
use Rattle.code.proofs.Evals.{eval_block, expr_own_block}
use Rattle.code.proofs.Owns.{for_block, if_block, while_block}
use Rattle.code.proofs.own.emit_its.Goals as goal

pub returns-in_ok-emit_branches-in-If : goal.returns-in_ok-emit_branches-in-If
returns-in_ok-emit_branches-in-If g c = λ args is.
    if_block c.args.code.now.items c.emit_branches.new.code.items c.args.own.now c.in-If.own
    c.in-If.is c.in_ok-emit_branches-in-If.ensures args is

pub returns-in_ok-emit_turns-in-While : goal.returns-in_ok-emit_turns-in-While
returns-in_ok-emit_turns-in-While g c = λ args is.
    while_block c.args.code.now.items c.emit_turns.new.code.items c.args.own.now c.in-While.own
    c.in-While.is c.in_ok-emit_turns-in-While.ensures args is

pub returns-in_ok-emit_for-in-For : goal.returns-in_ok-emit_for-in-For
returns-in_ok-emit_for-in-For g c = λ args is.
    for_block c.args.code.now.items c.emit_for.new.code.items c.args.own.now c.in-For.own
    c.in-For.is c.in_ok-emit_for-in-For.ensures args is

pub returns-in_ok-put_body-in-Eval : goal.returns-in_ok-put_body-in-Eval
returns-in_ok-put_body-in-Eval g c = λ args is.
    eval_block c.args.code.now.items c.put_body.new.code.items c.args.own.now c.in-Eval.own
    c.in-Eval.is c.in_ok-put_body-in-Eval.ensures args is

pub returns-in_ok-emit_catch-in-Catch : goal.returns-in_ok-emit_catch-in-Catch
returns-in_ok-emit_catch-in-Catch g c = λ args is.
    catch_own_block c.args.code.now.items c.emit_catch.new.code.items c.args.own.now c.in-Catch.own
    c.in-Catch.is c.in_ok-emit_catch-in-Catch.ensures args is

pub returns-in_ok-emit_expr-in-Expr : goal.returns-in_ok-emit_expr-in-Expr
returns-in_ok-emit_expr-in-Expr g c = λ args is.
    expr_own_block c.args.code.now.items c.emit_expr.new.code.items c.args.own.now c.in-Expr.own
    c.in-Expr.is c.in_ok-emit_expr-in-Expr.ensures args is
