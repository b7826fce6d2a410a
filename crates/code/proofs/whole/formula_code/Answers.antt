use Rattle.std.proofs.Common.{◌≡◌, ◌∙◌, [], ◌∷◌, ◌++◌, length, refl, rules, sym, ap, subst}
use Rattle.code.proofs.Built.{all_kept}
use Rattle.code.specs.Code.{At, FormulaAt}
use Rattle.code.specs.declared.instruction.Instruction.TheVariants as i
use Rattle.formulas.specs.View.{formula_of}
use Rattle.code.proofs.whole.formula_code.Goals as goal

pub returns : goal.returns
returns g c =
    let begun = c.push.new.self.items in
    let new = c.emit_formula.new.code.items in
    let block = c.in_ok-emit_formula.ensures in
    let put : begun ≡ c.new-code.result.items ++ i.Discard ∷ [] = search rules in
    let one : begun ≡ i.Discard ∷ [] =
    put ∙ ap (λ code. code ++ i.Discard ∷ []) c.new-code.ensures.items in (
      block.extends.kept 0 i.Discard (subst (λ code. At code 0 i.Discard) (sym one) refl),
      subst (λ old. FormulaAt new (length old) (formula_of c.args.formula.now) (length new))
          one (block.lies new (all_kept new)),
    )
