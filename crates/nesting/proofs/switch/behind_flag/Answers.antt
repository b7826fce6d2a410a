use Rattle.std.proofs.Common.{◌≡◌, ◌∙◌, length, sym, ap, arith}
use Rattle.std.specs.Prelude.{codes}
use Rattle.std.specs.Str.{bytes_eq}
use Rattle.acts.specs.Flaw as flaw
use Rattle.state.specs.Prelude.{text_of, Leaves, Error}
use Rattle.nesting.specs.Eval.{next_of}
use Rattle.nesting.specs.Switch.{mode_of}
use Rattle.nesting.proofs.Choosing.{behind_none, behind_wrong}
use Rattle.nesting.proofs.Nestings.{over}
use Rattle.nesting.proofs.switch.behind_flag.Goals as goal

pub returns-in_default-clause-nests : goal.returns-in_default-clause-nests
returns-in_default-clause-nests g c = λ s fits.
    let words = c.args.words.now in
    let none : length words ≡ 0 = omega (arith, c.in_default.len_below) in
    over next_of c.args.state.now c.in_ok-wrong_args.field-0
    (Leaves Error (text_of (flaw.WrongArgs (codes "switch")))) s _ fits c.in_ok-wrong_args.ensures
    (behind_none c.args.levels (mode_of c.args.mode) words s none)

pub returns-in_ok-bad_argument-clause-nests : goal.returns-in_ok-bad_argument-clause-nests
returns-in_ok-bad_argument-clause-nests g c = λ s fits.
    let word = c.as_slice-word.result.now in
    over next_of c.args.state.now c.in_ok-bad_argument.field-0
    (Leaves Error (text_of (flaw.BadArgument word (codes "switch")))) s _ fits
    c.in_ok-bad_argument.ensures
    (behind_wrong c.args.levels (mode_of c.args.mode) c.args.words.now s c.word-item.result word
    c.in-len1-up.len_at_least c.word-item.is c.as_slice-word.ensures
    (ap (bytes_eq word) (sym c.as_slice.ensures) ∙ sym c.if-eq.ensures)
    (sym c.if-begins_with_dash.ensures))
