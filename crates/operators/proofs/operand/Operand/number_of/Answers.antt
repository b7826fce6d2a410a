use Rattle.std.proofs.Common.{Some, FitsSigned, w64, rules, sym, ap, ◌∙◌}
use Rattle.std.proofs.lemmas.Int.{to_z-of_z}
use Rattle.operators.specs.Number.{number_of}
use Rattle.operators.specs.View.{text_of}
use Rattle.operators.proofs.Read.{decimal_is}
use Rattle.operators.proofs.operand.Operand.number_of.Goals as goal

pub returns-in-Number : goal.returns-in-Number
returns-in-Number g c =
    let fits : FitsSigned w64 c.in-Number.n = search rules in
    ap (λ n. Some n) (to_z-of_z w64 c.in-Number.n fits) ∙ sym (decimal_is c.in-Number.n fits)
    ∙ ap number_of (ap text_of (sym c.in-Number.is) ∙ c.self.view_is)
