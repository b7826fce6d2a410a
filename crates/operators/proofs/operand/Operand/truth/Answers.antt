use Rattle.std.proofs.Common.{◌≡◌, ◌+◌, ◌<◌, ◌∷◌, [], ℕ, pos, sym, ap, ◌∙◌, arith}
use Rattle.std.proofs.lemmas.Fmt.{decimal_digit}
use Rattle.std.specs.Fmt.{signed_decimal}
use Rattle.meanings.specs.Meaning.{truth}
use Rattle.operators.proofs.operand.Operand.truth.Goals as goal

one_digit : (n : ℕ) → n < 10 → signed_decimal (pos n) ≡ (48 + n) ∷ []
one_digit = decimal_digit

pub returns-then-holds : goal.returns-then-holds
returns-then-holds g c =
    c.number.ensures ∙ one_digit 1 (omega arith) ∙ ap truth (sym c.if-holds.true)

pub returns-else-holds : goal.returns-else-holds
returns-else-holds g c =
    c.number-else-holds.ensures ∙ one_digit 0 (omega arith) ∙ ap truth (sym c.if-holds.false)
