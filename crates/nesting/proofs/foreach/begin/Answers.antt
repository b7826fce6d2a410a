use Rattle.std.proofs.Common.{◌≡◌, length, false, rules}
use Rattle.std.specs.Prelude.{codes}
use Rattle.acts.specs.Flaw as flaw
use Rattle.state.specs.Prelude.{text_of, Leaves, Error}
use Rattle.nesting.proofs.Pairing.{foreach_other}
use Rattle.nesting.specs.Foreach.{is_taken}
use Rattle.nesting.specs.Looping.{next_of}
use Rattle.nesting.proofs.Nestings.{over}
use Rattle.nesting.proofs.foreach.begin.Goals as goal

pub returns-then-not-is_taken-clause-nests : goal.returns-then-not-is_taken-clause-nests
returns-then-not-is_taken-clause-nests g c = λ s fits.
    let words = c.args.args.now in
    let other : is_taken (length words) ≡ false = search rules in
    over next_of c.args.state.now c.in_ok-wrong_args.field-0
    (Leaves Error (text_of (flaw.WrongArgs (codes "foreach")))) s _ fits c.in_ok-wrong_args.ensures
    (foreach_other c.args.levels words s other)
