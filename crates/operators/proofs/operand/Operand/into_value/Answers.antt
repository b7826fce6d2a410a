use Rattle.std.proofs.Common.{◌≡◌, IfOk, FitsSigned, w64, sym, ap, ◌∙◌, subst, rules, ℕ, List}
use Rattle.std.specs.Fmt.{signed_decimal}
use Rattle.std.proofs.lemmas.Int.{to_z-of_z}
use Rattle.operators.specs.Value.{result, in_decimal}
use Rattle.operators.specs.View.{text_of}
use Rattle.operators.proofs.Read.{decimal_is}
use Rattle.operators.proofs.operand.Operand.into_value.Goals as goal

pub returns-in-Number : goal.returns-in-Number
returns-in-Number g c =
    let n = c.in-Number.n in
    let fits : FitsSigned w64 n = search rules in
    let same : signed_decimal n ≡ result (signed_decimal n) =
    ap (λ o. in_decimal o (signed_decimal n)) (sym (decimal_is n fits)) in
    let self : signed_decimal n ≡ c.args.self = ap text_of (sym c.in-Number.is) ∙ c.self.view_is in
    let whole = ap signed_decimal (to_z-of_z w64 n fits) ∙ same ∙ ap result self in
    subst (λ (t : List ℕ). IfOk c.int.result (λ v. v ≡ t)) whole c.int.ensures
