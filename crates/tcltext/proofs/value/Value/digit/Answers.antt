use Rattle.std.proofs.Common.{◌≡◌, ◌<◌, ◌+◌, ◌∷◌, [], ℤ, List, ℕ, IfSome, pos, w64, to_z, of_z, sym, subst, rules, arith}
use Rattle.tcltext.specs.Numeral.{IsNumeral}
use Rattle.tcltext.proofs.Decimals.{digit_numeral, digit_text}
use Rattle.tcltext.proofs.value.Value.digit.Goals as goal

pub with_number-requires : goal.with_number-requires
with_number-requires g c =
    let is : c.args.n ≡ pos c.in-Ok.digit = search rules in
    let small : c.in-Ok.digit < 10 = omega arith in
    let same : to_z w64 (of_z w64 c.args.n) ≡ c.args.n = search rules in
    subst (λ (z : ℤ). IsNumeral z ((48 + c.in-Ok.digit) ∷ [])) (sym same)
    (digit_numeral c.args.n c.in-Ok.digit is small)

pub returns : goal.returns
returns g c =
    let is : c.args.n ≡ pos c.in-Ok.digit = search rules in
    let small : c.in-Ok.digit < 10 = omega arith in
    subst (λ (text : List ℕ). IfSome c.with_number.result (λ value. value ≡ text))
    (sym (digit_text c.args.n c.in-Ok.digit is small)) c.with_number.ensures
