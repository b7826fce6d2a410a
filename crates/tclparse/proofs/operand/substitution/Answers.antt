use Rattle.std.proofs.Common.{rules, ◌≡◌, sym, ap, subst, ◌∙◌, Ok}
use Rattle.tclparse.specs.Tree.{no_parts, variable}
use Rattle.tclparse.specs.Seen.{fault_of}
use Rattle.tclparse.specs.Piece.{next_part}
use Rattle.tclparse.specs.FormulaGrammar.{IsSubstitution}
use Rattle.tclparse.proofs.Exits.{passed_on}
use Rattle.tclparse.proofs.Trees.{view_Variable}
use Rattle.tclparse.proofs.Operands.{StandsAlone, seen_alone, fault_alone, name_alone, element_alone, index_alone, script_alone, index_alone_error, script_alone_error}
use Rattle.tclparse.proofs.operand.substitution.Goals as goal
use Rattle.tclparse.proofs.operand.substitution.Goals.{in-Name+in_ok-from_slice-in-Name, in-Index+in_ok-read_element-in-Index, in-Element+in_ok-literal_element-in-Element, in-Bracket+in_ok-part-in-Bracket}

pub returns-in-Fault-clause-tree : goal.returns-in-Fault-clause-tree
returns-in-Fault-clause-tree g c = fault_alone c.args.depth c.args.text.now
    (fault_of c.in-Fault.fault) c.in-Fault.ensures.piece

pub returns-in_err-read_element-in-Index-clause-tree :
    goal.returns-in_err-read_element-in-Index-clause-tree
returns-in_err-read_element-in-Index-clause-tree g c =
    let fails = c.in_err-read_element-in-Index in
    index_alone_error c.args.depth c.args.text.now c.in-Index.name.now c.in-Index.inner.now
    fails.field-0.0 _
    c.in-Index.ensures.piece fails.ensures.tree
    (passed_on _ _ c.from_residual-in_err-read_element-in-Index.ensures.1)

pub returns-in_err-part-in-Bracket-clause-tree : goal.returns-in_err-part-in-Bracket-clause-tree
returns-in_err-part-in-Bracket-clause-tree g c =
    let fails = c.in_err-part-in-Bracket in
    script_alone_error c.args.depth c.args.text.now c.in-Bracket.inner.now fails.field-0.0 _
    c.in-Bracket.ensures.piece fails.ensures.tree
    (passed_on _ _ c.from_residual-in_err-part-in-Bracket.ensures.1)

pub returns-clause-tree : goal.returns-clause-tree
returns-clause-tree g c =
    let d = c.args.depth in
    let x = c.args.text.now in
    let stands : StandsAlone d x c.match-next_part.part = elim c.match-next_part.branch [
      | in-Name+in_ok-from_slice-in-Name w ↦
          let n = w.in-Name.name.now in
          let name : w.in_ok-from_slice-in-Name.field-0 ≡ n = search rules in
          subst (StandsAlone d x) (sym w.part-is)
          (seen_alone d x _ _ (variable n no_parts)
          (view_Variable _ w.in_ok-from_slice-in-Name.field-0 no_parts
          ∙ ap (λ v. variable v no_parts) name)
          (name_alone d x n w.in-Name.rest.now w.in-Name.ensures.piece))
      | in-Index+in_ok-read_element-in-Index w ↦
          let read = w.in_ok-read_element-in-Index.ensures.tree in
          subst (StandsAlone d x) (sym w.part-is)
          (seen_alone d x _ _ _ (read.1 no_parts)
          (index_alone d x w.in-Index.name.now w.in-Index.inner.now _ read.0
          w.in-Index.ensures.piece read.2))
      | in-Element+in_ok-literal_element-in-Element w ↦
          subst (StandsAlone d x) (sym w.part-is)
          (seen_alone d x _ _ _ (w.in_ok-literal_element-in-Element.ensures.part no_parts)
          (element_alone d x w.in-Element.name.now w.in-Element.index.now w.in-Element.rest.now
          w.in-Element.ensures.piece))
      | in-Bracket+in_ok-part-in-Bracket w ↦
          let read = w.in_ok-part-in-Bracket.ensures.tree in
          subst (StandsAlone d x) (sym w.part-is)
          (seen_alone d x _ _ _ (read.1 no_parts)
          (script_alone d x w.in-Bracket.inner.now _ read.0 w.in-Bracket.ensures.piece read.2))
    ] in
    subst (λ p. IsSubstitution d p (next_part d x) (Ok c.match-next_part.part.1.now))
    (sym c.in_ok-parts.ensures) stands
