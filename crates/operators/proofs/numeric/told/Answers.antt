use Rattle.std.proofs.Common.{arith, ◌∙◌, ap, sym}
use Rattle.std.proofs.lemmas.Fmt.{decimal_digit}
use Rattle.meanings.specs.Meaning.{Gives, truth}
use Rattle.operators.specs.Number.{number_of}
use Rattle.operators.proofs.Results.{one_is, zero_is}
use Rattle.operators.proofs.numeric.told.Goals as goal

pub returns-then-holds-clause-means : goal.returns-then-holds-clause-means
returns-then-holds-clause-means c = ap number_of (ap truth c.if-holds.true) ∙ one_is

pub returns-else-holds-clause-means : goal.returns-else-holds-clause-means
returns-else-holds-clause-means c = ap number_of (ap truth c.if-holds.false) ∙ zero_is

pub returns-then-holds-clause-gives : goal.returns-then-holds-clause-gives
returns-then-holds-clause-gives c =
    ap (λ holds. Gives (truth holds)) c.if-holds.true
    ∙ ap (λ text. Gives text) (sym (decimal_digit 1 (omega arith)))

pub returns-else-holds-clause-gives : goal.returns-else-holds-clause-gives
returns-else-holds-clause-gives c =
    ap (λ holds. Gives (truth holds)) c.if-holds.false
    ∙ ap (λ text. Gives text) (sym (decimal_digit 0 (omega arith)))
