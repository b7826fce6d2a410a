use Rattle.std.proofs.Common.{◌≡◌, FitsSigned, IfSome, SomeIff, rules, subst, sym, w64}
use Rattle.integers.specs.Division.{remainder}
use Rattle.operators.specs.Binary.{binary}
use Rattle.operators.specs.Number.{told}
use Rattle.operators.specs.Numeric.{GivesNumber, MeansNumber}
use Rattle.operators.proofs.numeric.of_both.Goals as goal

pub returns-in-Remainder-clause-means : goal.returns-in-Remainder-clause-means
returns-in-Remainder-clause-means c = λ a b left right.
    let rest = remainder c.args.left c.args.right in
    let is : binary c.args.operator a b ≡ told rest = search rules in
    let some : SomeIff c.remainder.result (FitsSigned w64 rest) rest = search rules in
    subst (λ m. IfSome c.held-in-Remainder.result (MeansNumber m)) (sym is)
    (c.held-in-Remainder.ensures.means rest some)

pub returns-in-Remainder-clause-gives : goal.returns-in-Remainder-clause-gives
returns-in-Remainder-clause-gives c = λ a b left right.
    let rest = remainder c.args.left c.args.right in
    let is : binary c.args.operator a b ≡ told rest = search rules in
    let some : SomeIff c.remainder.result (FitsSigned w64 rest) rest = search rules in
    subst (λ m. IfSome c.held-in-Remainder.result (GivesNumber m)) (sym is)
    (c.held-in-Remainder.ensures.gives rest some)
