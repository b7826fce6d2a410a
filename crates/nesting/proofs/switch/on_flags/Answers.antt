use Rattle.std.proofs.Common.{◌≡◌, length, arith}
use Rattle.std.specs.Prelude.{codes}
use Rattle.acts.specs.Flaw as flaw
use Rattle.state.specs.Prelude.{text_of, Leaves, Error}
use Rattle.nesting.specs.Eval.{next_of}
use Rattle.nesting.proofs.Choosing.{flags_none}
use Rattle.nesting.proofs.Nestings.{over}
use Rattle.nesting.proofs.switch.on_flags.Goals as goal

pub returns-in_default-clause-nests : goal.returns-in_default-clause-nests
returns-in_default-clause-nests g c = λ s fits.
    let words = c.args.words.now in
    let none : length words ≡ 0 = omega (arith, c.in_default.len_below) in
    over next_of c.args.state.now c.in_ok-wrong_args.field-0
    (Leaves Error (text_of (flaw.WrongArgs (codes "switch")))) s _ fits c.in_ok-wrong_args.ensures
    (flags_none c.args.levels words s none)
