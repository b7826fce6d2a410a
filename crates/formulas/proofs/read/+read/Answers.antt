use Rattle.std.proofs.Common.{rules, arith, sym}
use Rattle.tclparse.proofs.Exits.{passed_on}
use Rattle.formulas.specs.Seen.{fault_of, leaf_of}
use Rattle.formulas.specs.View.{formula_of}
use Rattle.formulas.specs.declared.tree.Formula.{Prefix}
use Rattle.formulas.proofs.Trees.{prefix_made}
use Rattle.formulas.proofs.Steps.{first_operand, after_link, over_at, fault_at, choice_at, after_argument, last_fault, last_argument}
use Rattle.formulas.proofs.Operands.{leaf_operand, prefix_operand, prefix_error, enclosed_operand, enclosed_error, unclosed_operand, call_operand, call_error, first_error, link_error, argument_error, yes_error, colon_fault, no_error}
use Rattle.formulas.proofs.read.+read.Goals as goal

pub read_operand-returns-in-Leaf-clause-tree : goal.read_operand-returns-in-Leaf-clause-tree
read_operand-returns-in-Leaf-clause-tree g t c =
    leaf_operand c.args.depth c.args.text.now (leaf_of c.in-Leaf.leaf) _ c.in-Leaf.ensures.opening
    c.read_leaf.ensures.tree

pub read_operand-returns-in_ok-operand-in-Prefix-2-clause-tree :
    goal.read_operand-returns-in_ok-operand-in-Prefix-2-clause-tree
read_operand-returns-in_ok-operand-in-Prefix-2-clause-tree g t c =
    let read = c.in_ok-operand-in-Prefix in
    let boxed = c.in_ok-operand-in-Prefix-2 in
    prefix_operand c.args.depth c.args.text.now read.rest.now c.in-Prefix.inner.now
    c.in-Prefix.operator read.operand (Prefix c.in-Prefix.operator boxed.operand)
    c.in-Prefix.ensures.opening read.ensures.tree
    (prefix_made c.in-Prefix.operator boxed.operand read.operand (search rules))

pub read_operand-returns-in_err-operand-in-Prefix-clause-tree :
    goal.read_operand-returns-in_err-operand-in-Prefix-clause-tree
read_operand-returns-in_err-operand-in-Prefix-clause-tree g t c =
    let fails = c.in_err-operand-in-Prefix in
    prefix_error c.args.depth c.args.text.now c.in-Prefix.inner.now c.in-Prefix.operator
    fails.field-0.0 _
    c.in-Prefix.ensures.opening fails.ensures.tree (passed_on _ _ c.from_residual.ensures.1)

pub read_operand-returns-in_ok-rest-in-Parenthesis-clause-tree :
    goal.read_operand-returns-in_ok-rest-in-Parenthesis-clause-tree
read_operand-returns-in_ok-rest-in-Parenthesis-clause-tree g t c =
    let read = c.in_ok-formula-in-Parenthesis in
    let behind = c.in_ok-rest-in-Parenthesis in
    enclosed_operand c.args.depth c.args.text.now read.end.now c.in-Parenthesis.inner.now
    behind.rest.now read.formula
    c.in-Parenthesis.ensures.opening read.ensures.tree behind.ensures.rest

pub read_operand-returns-in_err-formula-in-Parenthesis-clause-tree :
    goal.read_operand-returns-in_err-formula-in-Parenthesis-clause-tree
read_operand-returns-in_err-formula-in-Parenthesis-clause-tree g t c =
    let fails = c.in_err-formula-in-Parenthesis in
    enclosed_error c.args.depth c.args.text.now c.in-Parenthesis.inner.now fails.field-0.0 _
    c.in-Parenthesis.ensures.opening fails.ensures.tree
    (passed_on _ _ c.from_residual-in_err-formula-in-Parenthesis.ensures.1)

pub read_operand-returns-in_err-rest-in-Parenthesis-clause-tree :
    goal.read_operand-returns-in_err-rest-in-Parenthesis-clause-tree
read_operand-returns-in_err-rest-in-Parenthesis-clause-tree g t c =
    let read = c.in_ok-formula-in-Parenthesis in
    let fails = c.in_err-rest-in-Parenthesis in
    rw (passed_on _ _ c.from_residual-in_err-rest-in-Parenthesis.ensures.1)
    (unclosed_operand c.args.depth c.args.text.now read.end.now c.in-Parenthesis.inner.now
    (formula_of read.formula) (fault_of fails.field-0.0)
    c.in-Parenthesis.ensures.opening read.ensures.tree fails.ensures.rest)

pub read_operand-returns-in_ok-arguments-in-Call-clause-tree :
    goal.read_operand-returns-in_ok-arguments-in-Call-clause-tree
read_operand-returns-in_ok-arguments-in-Call-clause-tree g t c =
    let read = c.in_ok-arguments-in-Call in
    call_operand c.args.depth c.args.text.now read.rest.now c.in-Call.inner.now c.in-Call.function
    read.arguments c.in-Call.ensures.opening read.ensures.tree

pub read_operand-returns-in_err-arguments-in-Call-clause-tree :
    goal.read_operand-returns-in_err-arguments-in-Call-clause-tree
read_operand-returns-in_err-arguments-in-Call-clause-tree g t c =
    let fails = c.in_err-arguments-in-Call in
    call_error c.args.depth c.args.text.now c.in-Call.inner.now c.in-Call.function fails.field-0.0 _
    c.in-Call.ensures.opening fails.ensures.tree
    (passed_on _ _ c.from_residual-in_err-arguments-in-Call.ensures.1)

pub read_whole-loop-operator-init : goal.read_whole-loop-operator-init
read_whole-loop-operator-init g t c =
    record {
      tree = first_operand c.args.depth c.args.text.now c.in_ok-first.behind.now
          (formula_of c.in_ok-first.first) c.new-links.result.items c.in_ok-first.ensures.tree
          (search rules);
      shorter = c.in_ok-first.ensures.shorter;
    }

pub read_whole-loop-operator-preserved : goal.read_whole-loop-operator-preserved
read_whole-loop-operator-preserved g t c =
    let l = c.loop-operator in
    let read = c.in_ok-operand-in-Infix in
    let less = c.in-Infix.ensures.within in
    record {
      tree = after_link c.args.depth c.args.text.now l.rest.now c.in-Infix.inner.now read.behind.now
          (formula_of c.loop-operator.first-1) c.in-Infix.operator read.operand l.links.items
          c.push.new.self.items
          l.invariant.tree c.in-Infix.ensures.following read.ensures.tree (search rules);
      shorter = omega (arith, read.ensures.shorter, less, l.invariant.shorter);
    }

pub read_whole-returns-in-Choice-clause-tree : goal.read_whole-returns-in-Choice-clause-tree
read_whole-returns-in-Choice-clause-tree g t c =
    let l = c.loop-operator in
    choice_at c.args.depth c.args.text.now l.rest.now c.in-Choice.inner.now
    (formula_of c.loop-operator.first-1) (formula_of c.in_ok-test-in-Choice.test) l.links.items
    _
    l.invariant.tree c.in-Choice.ensures.following c.in_ok-test-in-Choice.ensures
    c.read_choice.ensures.tree

pub read_whole-returns-in-End-clause-tree : goal.read_whole-returns-in-End-clause-tree
read_whole-returns-in-End-clause-tree g t c =
    let l = c.loop-operator in
    over_at c.args.depth c.args.text.now l.rest.now c.in-End.end.now
    (formula_of c.loop-operator.first-1) (formula_of c.in_ok-formula-in-End.formula)
    l.links.items
    l.invariant.tree c.in-End.ensures.following c.in_ok-formula-in-End.ensures

pub read_whole-returns-in-Fault-clause-tree : goal.read_whole-returns-in-Fault-clause-tree
read_whole-returns-in-Fault-clause-tree g t c =
    let l = c.loop-operator in
    fault_at c.args.depth c.args.text.now l.rest.now (formula_of c.loop-operator.first-1)
    (fault_of c.in-Fault.fault) l.links.items
    l.invariant.tree c.in-Fault.ensures.following

pub read_whole-returns-in_err-first-clause-tree : goal.read_whole-returns-in_err-first-clause-tree
read_whole-returns-in_err-first-clause-tree g t c =
    first_error c.args.depth c.args.text.now c.in_err-first.field-0.0 _ c.in_err-first.ensures.tree
    (passed_on _ _ c.from_residual.ensures.1)

pub read_whole-returns-in_err-operand-in-Infix-clause-tree :
    goal.read_whole-returns-in_err-operand-in-Infix-clause-tree
read_whole-returns-in_err-operand-in-Infix-clause-tree g t c =
    let l = c.loop-operator in
    let fails = c.in_err-operand-in-Infix in
    link_error c.args.depth c.args.text.now l.rest.now c.in-Infix.inner.now
    (formula_of c.loop-operator.first-1) c.in-Infix.operator fails.field-0.0 l.links.items _
    l.invariant.tree c.in-Infix.ensures.following fails.ensures.tree
    (passed_on _ _ c.from_residual-in_err-operand-in-Infix.ensures.1)

pub read_choice-returns-in_err-yes-clause-tree : goal.read_choice-returns-in_err-yes-clause-tree
read_choice-returns-in_err-yes-clause-tree g t c =
    yes_error c.args.depth c.args.text.now (formula_of c.args.test) c.in_err-yes.field-0.0 _
    c.in_err-yes.ensures.tree (passed_on _ _ c.from_residual.ensures.1)

pub read_choice-returns-in_err-inner-clause-tree : goal.read_choice-returns-in_err-inner-clause-tree
read_choice-returns-in_err-inner-clause-tree g t c =
    rw (passed_on _ _ c.from_residual-in_err-inner.ensures.1)
    (colon_fault c.args.depth c.args.text.now c.in_ok-yes.end.now (formula_of c.in_ok-yes.yes)
    (fault_of c.in_err-inner.field-0.0) c.in_ok-yes.ensures.tree c.in_err-inner.ensures.rest)

pub read_choice-returns-in_err-no-clause-tree : goal.read_choice-returns-in_err-no-clause-tree
read_choice-returns-in_err-no-clause-tree g t c =
    no_error c.args.depth c.args.text.now c.in_ok-yes.end.now c.in_ok-inner.inner.now
    (formula_of c.args.test) (formula_of c.in_ok-yes.yes) c.in_err-no.field-0.0 _
    c.in_ok-yes.ensures.tree c.in_ok-inner.ensures.rest c.in_err-no.ensures.tree
    (passed_on _ _ c.from_residual-in_err-no.ensures.1)

pub read_arguments-loop-arguments-preserved : goal.read_arguments-loop-arguments-preserved
read_arguments-loop-arguments-preserved g t c =
    let l = c.loop-arguments in
    let read = c.in_ok-argument in
    record {
      tree = after_argument c.args.depth c.args.function c.args.text.now l.rest.now read.end.now
          c.in-Some.inner.now read.argument l.arguments.items c.push.new.self.items
          l.invariant.tree read.ensures.tree (sym c.in-Some.ensures.comma) (search rules);
      shorter = omega (arith, read.ensures.shorter, c.in-Some.ensures.shorter, l.invariant.shorter);
    }

pub read_arguments-returns-in-None-clause-tree : goal.read_arguments-returns-in-None-clause-tree
read_arguments-returns-in-None-clause-tree g t c =
    let l = c.loop-arguments in
    let read = c.in_ok-argument in
    let behind = c.in_ok-behind-in-None in
    last_argument c.args.depth c.args.function c.args.text.now l.rest.now read.end.now
    behind.behind.now read.argument l.arguments.items _
    l.invariant.tree read.ensures.tree (sym c.in-None.ensures.comma) behind.ensures.rest
    (search rules)

pub read_arguments-returns-in_err-argument-clause-tree :
    goal.read_arguments-returns-in_err-argument-clause-tree
read_arguments-returns-in_err-argument-clause-tree g t c =
    let l = c.loop-arguments in
    argument_error c.args.depth c.args.function c.args.text.now l.rest.now
    c.in_err-argument.field-0.0 l.arguments.items _
    l.invariant.tree c.in_err-argument.ensures.tree (passed_on _ _ c.from_residual.ensures.1)

pub read_arguments-returns-in_err-behind-in-None-clause-tree :
    goal.read_arguments-returns-in_err-behind-in-None-clause-tree
read_arguments-returns-in_err-behind-in-None-clause-tree g t c =
    let l = c.loop-arguments in
    let read = c.in_ok-argument in
    let fails = c.in_err-behind-in-None in
    rw (passed_on _ _ c.from_residual-in_err-behind-in-None.ensures.1)
    (last_fault c.args.depth c.args.function c.args.text.now l.rest.now read.end.now
    (fault_of fails.field-0.0) (formula_of read.argument) l.arguments.items
    l.invariant.tree read.ensures.tree (sym c.in-None.ensures.comma) fails.ensures.rest)
