use Rattle.std.proofs.Common.{drop}
use Rattle.code.proofs.Formulas.{ArgumentsLeft, LinksLeft}
use Rattle.formulas.specs.View.{formulas_then, links_then}
use Rattle.tclparse.specs.Formula.{no_formulas, no_links}
use Rattle.code.proofs.formula.+emit_formula.Given as goal

abbrev pub invariant-emit_arguments-loop-argument : goal.invariant-emit_arguments-loop-argument
invariant-emit_arguments-loop-argument g l =
    ArgumentsLeft l.argument-index l.fn.code.items l.code.items
    (formulas_then (drop l.argument-index l.arguments) no_formulas)
    (formulas_then l.arguments no_formulas)

abbrev pub invariant-emit_links-loop-link : goal.invariant-emit_links-loop-link
invariant-emit_links-loop-link g l =
    LinksLeft l.fn.code.items l.code.items
    (links_then (drop l.link-index l.links) no_links) (links_then l.links no_links)
