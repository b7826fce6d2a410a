use Rattle.std.proofs.Common.{rules, refl, Err}
use Rattle.tclparse.specs.Tree.{no_parts}
use Rattle.tclparse.specs.Formula.{text}
use Rattle.tclparse.specs.FormulaText.{nothing}
use Rattle.tclparse.specs.FormulaFault.{syntax}
use Rattle.tclparse.specs.FormulaGrammar.{IsSubstitution}
use Rattle.tclparse.specs.Piece.{next_part}
use Rattle.formulas.proofs.Leaves.{quotes_leaf, quotes_error, braces_error, substitution_error}
use Rattle.formulas.proofs.leaf.read_leaf.Goals as goal

pub returns-in-Fault-clause-tree : goal.returns-in-Fault-clause-tree
returns-in-Fault-clause-tree g c = rw c.in-Fault.is (nothing, (refl, refl))

pub returns-in-None-clause-tree : goal.returns-in-None-clause-tree
returns-in-None-clause-tree g c =
    let none : IsSubstitution c.args.depth no_parts
    (next_part c.args.depth c.in-Substitution.text.now) (Err syntax) = search rules in
    rw c.in-Substitution.is (text no_parts, (no_parts, refl, none))

pub returns-in_ok-parts-in-Quotes-clause-tree : goal.returns-in_ok-parts-in-Quotes-clause-tree
returns-in_ok-parts-in-Quotes-clause-tree g c =
    let read = c.in_ok-parts-in-Quotes in
    rw c.in-Quotes.is (quotes_leaf c.args.depth c.in-Quotes.inner.now read.rest.now read.parts
    read.ensures.tree)

pub returns-in_err-parts-in-Quotes-clause-tree : goal.returns-in_err-parts-in-Quotes-clause-tree
returns-in_err-parts-in-Quotes-clause-tree g c =
    let fails = c.in_err-parts-in-Quotes in
    rw c.in-Quotes.is (quotes_error c.args.depth c.in-Quotes.inner.now fails.field-0.0 _
    fails.ensures.tree c.from_residual-in_err-parts-in-Quotes.ensures.1)

pub returns-in_err-parts-in-Braces-clause-tree : goal.returns-in_err-parts-in-Braces-clause-tree
returns-in_err-parts-in-Braces-clause-tree g c =
    let fails = c.in_err-parts-in-Braces in
    rw c.in-Braces.is (braces_error c.args.depth c.in-Braces.inner.now fails.field-0.0 _
    fails.ensures.tree c.from_residual-in_err-parts-in-Braces.ensures.1)

pub returns-in_err-parts-in-Substitution-clause-tree :
    goal.returns-in_err-parts-in-Substitution-clause-tree
returns-in_err-parts-in-Substitution-clause-tree g c =
    let fails = c.in_err-parts-in-Substitution in
    rw c.in-Substitution.is (substitution_error c.args.depth c.in-Substitution.text.now
    fails.field-0.0 _ fails.ensures.tree c.from_residual-in_err-parts-in-Substitution.ensures.1)
