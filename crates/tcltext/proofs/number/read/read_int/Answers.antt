use Rattle.std.proofs.Common.{ℤ, MatchOption, sym, ap, subst, ◌∙◌}
use Rattle.tcltext.specs.Numeral.{IsNumeral, IsInRange}
use Rattle.tcltext.specs.Numbers.{unsigned, behind_sign, is_minus, small}
use Rattle.tcltext.proofs.Range.{too_large, in_range, minus, plus}
use Rattle.tcltext.proofs.number.read.read_int.Goals as goal

pub returns-in_err-size-clause-value : goal.returns-in_err-size-clause-value
returns-in_err-size-clause-value c =
    let rest = c.split_sign-negative.ensures.rest ∙ ap behind_sign c.skip_white.ensures.rest in
    subst (λ r. MatchOption r ((n : ℤ) → IsNumeral n c.args.text.now → IsInRange n → ⊥)
    (λ n. IsNumeral n c.args.text.now)) (sym c.from_residual.ensures)
    (too_large c.args.text.now (ap (λ y. small (unsigned y)) (sym rest)
    ∙ sym c.in_err-size.ensures))

pub returns-then-negative-clause-value : goal.returns-then-negative-clause-value
returns-then-negative-clause-value c =
    let rest = c.split_sign-negative.ensures.rest ∙ ap behind_sign c.skip_white.ensures.rest in
    let sign = sym c.if-negative.true ∙ c.split_sign-negative.ensures.minus
    ∙ ap is_minus c.skip_white.ensures.rest in
    in_range c.args.text.now _ c.in_ok-size.size _ c.checked_sub_unsigned.result sign
    (ap (λ y. small (unsigned y)) (sym rest) ∙ sym c.in_ok-size.ensures)
    (minus c.in_ok-size.size) c.checked_sub_unsigned.ensures

pub returns-else-negative-clause-value : goal.returns-else-negative-clause-value
returns-else-negative-clause-value c =
    let rest = c.split_sign-negative.ensures.rest ∙ ap behind_sign c.skip_white.ensures.rest in
    let sign = sym c.if-negative.false ∙ c.split_sign-negative.ensures.minus
    ∙ ap is_minus c.skip_white.ensures.rest in
    in_range c.args.text.now _ c.in_ok-size.size _ c.checked_add_unsigned.result sign
    (ap (λ y. small (unsigned y)) (sym rest) ∙ sym c.in_ok-size.ensures)
    (plus c.in_ok-size.size) c.checked_add_unsigned.ensures
