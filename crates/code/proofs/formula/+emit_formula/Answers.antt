use Rattle.std.proofs.Common.{rules, arith, ◌∙◌, ◌+◌, drop, length, ap, subst}
use Rattle.std.proofs.Math.ListN.{drop_of_length-le}
use Rattle.code.proofs.Formulas.{and_block, argument_left, arguments_block, both_block, call_block, choice_block, link_left, links_block, numeral_block, or_block, parts_block, prefix_block, right_block, row_block}
use Rattle.code.proofs.Places.{formula_at, link_at, view_Numeral}
use Rattle.code.specs.Blocks.{ArgumentsBlock}
use Rattle.formulas.proofs.Trees.{choice_parts, row_parts, view_Call, view_Link, view_Prefix, view_Row, view_Text}
use Rattle.formulas.specs.View.{choice_view, formula_of, formulas_then, link_view, links_then}
use Rattle.formulas.specs.declared.tree.Choice.{out-Choice}
use Rattle.formulas.specs.declared.tree.Link.{out-Link}
use Rattle.formulas.specs.declared.tree.Row.{out-Row}
use Rattle.tclparse.specs.Formula.{link, no_formulas, no_links}
use Rattle.tclparse.specs.View.{parts_of}
use Rattle.code.proofs.formula.+emit_formula.Goals as goal

pub emit_formula-returns-in_ok-push-in-Numeral :
    goal.emit_formula-returns-in_ok-push-in-Numeral
emit_formula-returns-in_ok-push-in-Numeral g t c =
    let digits = c.in-Numeral.digits in
    numeral_block c.args.code.now.items c.push.new.self.items digits
    (formula_of c.args.formula.now) (search rules)
    (ap formula_of c.in-Numeral.is ∙ view_Numeral g.row.A.Denot digits)

pub emit_formula-returns-in_ok-emit_parts-in-Text :
    goal.emit_formula-returns-in_ok-emit_parts-in-Text
emit_formula-returns-in_ok-emit_parts-in-Text g t c =
    parts_block c.args.code.now.items c.emit_parts.new.code.items (parts_of c.in-Text.parts)
    (formula_of c.args.formula.now) (search rules)
    (ap formula_of c.in-Text.is ∙ view_Text c.in-Text.parts)

pub emit_formula-returns-in_ok-push-in-Call : goal.emit_formula-returns-in_ok-push-in-Call
emit_formula-returns-in_ok-push-in-Call g t c =
    let fs = c.in-Call.arguments in
    call_block c.args.code.now.items c.emit_arguments.new.code.items
    c.push-in-Call.new.self.items c.in-Call.function (formulas_then fs.value.items no_formulas)
    (length fs.value.items) (formula_of c.args.formula.now) (search rules) (search rules)
    (ap formula_of c.in-Call.is ∙ view_Call c.in-Call.function fs)

pub emit_formula-returns-in_ok-push-in-Prefix : goal.emit_formula-returns-in_ok-push-in-Prefix
emit_formula-returns-in_ok-push-in-Prefix g t c =
    let operand = c.in-Prefix.operand in
    prefix_block c.args.code.now.items c.emit_formula.new.code.items
    c.push-in-Prefix.new.self.items c.in-Prefix.operator (formula_of operand.value)
    (formula_of c.args.formula.now) (search rules) (search rules)
    (ap formula_of c.in-Prefix.is ∙ view_Prefix c.in-Prefix.operator operand)

pub emit_formula-returns-in_ok-emit_links-in-Row :
    goal.emit_formula-returns-in_ok-emit_links-in-Row
emit_formula-returns-in_ok-emit_links-in-Row g t c =
    let row = c.in-Row.row in
    let fields = out-Row g.row.A.Denot row.value in
    row_block c.args.code.now.items c.emit_formula-in-Row.new.code.items
    c.emit_links.new.code.items (formula_of fields.first) (formula_of c.args.formula.now)
    (links_then fields.links.items no_links) (search rules) (search rules)
    (ap formula_of c.in-Row.is ∙ view_Row row ∙ row_parts row.value)

pub emit_choice-returns : goal.emit_choice-returns
emit_choice-returns g t c =
    let choice = c.args.choice.now in
    let fields = out-Choice g.row.A.Denot choice in
    choice_block c.args.code.now.items c.emit_formula.new.code.items c.push.new.self.items
    c.emit_formula-2.new.code.items c.push-2.new.self.items c.fill.new.code.items
    c.emit_formula-3.new.code.items c.fill-2.new.code.items (formula_of fields.test)
    (formula_of fields.yes) (formula_of fields.no) (choice_view choice)
    (search rules) (search rules) (search rules) (search rules) (search rules) (search rules)
    (search rules) (choice_parts choice)

pub emit_link-returns-in_ok-push-in-Both : goal.emit_link-returns-in_ok-push-in-Both
emit_link-returns-in_ok-push-in-Both g t c =
    let it = c.args.link.now in
    let fields = out-Link g.row.A.Denot it in
    both_block c.args.code.now.items c.emit_formula.new.code.items c.push.new.self.items
    c.in-Both.operator (formula_of fields.operand) (link_view it) (search rules) (search rules)
    (λ u. view_Link it u ∙ ap (λ o. link o (formula_of fields.operand) u) c.in-Both.is)

pub emit_link-returns-in_ok-emit_right-in-AndAlso :
    goal.emit_link-returns-in_ok-emit_right-in-AndAlso
emit_link-returns-in_ok-emit_right-in-AndAlso g t c =
    let it = c.args.link.now in
    let fields = out-Link g.row.A.Denot it in
    and_block c.args.code.now.items c.emit_right.new.code.items c.fill.new.code.items
    (formula_of fields.operand) (link_view it) (search rules) (search rules)
    (λ u. view_Link it u ∙ ap (λ o. link o (formula_of fields.operand) u) c.in-AndAlso.is)

pub emit_link-returns-in_ok-emit_right-in-OrElse :
    goal.emit_link-returns-in_ok-emit_right-in-OrElse
emit_link-returns-in_ok-emit_right-in-OrElse g t c =
    let it = c.args.link.now in
    let fields = out-Link g.row.A.Denot it in
    or_block c.args.code.now.items c.emit_right-in-OrElse.new.code.items
    c.fill-in-OrElse.new.code.items (formula_of fields.operand) (link_view it) (search rules)
    (search rules)
    (λ u. view_Link it u ∙ ap (λ o. link o (formula_of fields.operand) u) c.in-OrElse.is)

pub emit_right-returns : goal.emit_right-returns
emit_right-returns g t c =
    right_block c.args.code.now.items c.push.new.self.items c.emit_formula.new.code.items
    c.push-2.new.self.items (formula_of c.args.operand.now) (search rules) (search rules)
    (search rules)

pub emit_links-loop-link-preserved : goal.emit_links-loop-link-preserved
emit_links-loop-link-preserved g t c =
    let links = c.args.links.now in
    let n = c.loop-link.link-index in
    let it = c.link-item.result in
    link_left c.args.code.now.items c.loop-link.code.items c.emit_link.new.code.items
    (link_view it) (links_then (drop n links) no_links)
    (links_then (drop (n + 1) links) no_links) (links_then links no_links)
    c.loop-link.invariant (search rules)
    (link_at links n it c.loop-link-test.true c.link-item.is)

pub emit_links-returns : goal.emit_links-returns
emit_links-returns g t c =
    let links = c.args.links.now in
    let n = c.loop-link.link-index in
    links_block c.args.code.now.items c.loop-link.code.items (links_then (drop n links) no_links)
    (links_then links no_links) c.loop-link.invariant
    (ap (λ ls. links_then ls no_links)
    (drop_of_length-le links {i = n} (omega (arith, c.loop-link-test.false))))

pub emit_arguments-loop-argument-preserved : goal.emit_arguments-loop-argument-preserved
emit_arguments-loop-argument-preserved g t c =
    let arguments = c.args.arguments.now in
    let n = c.loop-argument.argument-index in
    let it = c.argument-item.result in
    argument_left n c.args.code.now.items c.loop-argument.code.items
    c.emit_formula.new.code.items (formula_of it) (formulas_then (drop n arguments) no_formulas)
    (formulas_then (drop (n + 1) arguments) no_formulas) (formulas_then arguments no_formulas)
    c.loop-argument.invariant (search rules)
    (formula_at arguments n it c.loop-argument-test.true c.argument-item.is)

pub emit_arguments-returns : goal.emit_arguments-returns
emit_arguments-returns g t c =
    let arguments = c.args.arguments.now in
    let n = c.loop-argument.argument-index in
    subst (λ k. ArgumentsBlock c.args.code.now.items c.loop-argument.code.items
    (formulas_then arguments no_formulas) k)
    (omega (arith, c.loop-argument-test.false, c.loop-argument.auto.argument-index-end))
    (arguments_block n c.args.code.now.items c.loop-argument.code.items
    (formulas_then (drop n arguments) no_formulas) (formulas_then arguments no_formulas)
    c.loop-argument.invariant
    (ap (λ fs. formulas_then fs no_formulas)
    (drop_of_length-le arguments {i = n} (omega (arith, c.loop-argument-test.false)))))
