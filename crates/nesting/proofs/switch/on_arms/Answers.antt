use Rattle.std.proofs.Common.{◌≡◌, ◌∙◌, Ok, Some, option_copied, [], refl, sym, ap}
use Rattle.std.specs.Prelude.{codes}
use Rattle.acts.specs.Flaw as flaw
use Rattle.state.specs.Prelude.{text_of, raised, Gives, Leaves, Error}
use Rattle.nesting.specs.Eval.{next_of}
use Rattle.nesting.specs.Switch.{left_over, mode_of, runs_body}
use Rattle.nesting.proofs.Nestings.{nests_after, on_ok, over}
use Rattle.nesting.proofs.Choosing.{arms_left, arms_tried}
use Rattle.state.proofs.Reaches.{same_reaches, then_reaches}
use Rattle.nesting.proofs.switch.on_arms.Goals as goal

pub returns-in-Some-clause-nests : goal.returns-in-Some-clause-nests
returns-in-Some-clause-nests g c = λ s fits.
    let word = c.as_slice.result.now in
    let is : left_over c.args.arms.now ≡ Some word =
    sym c.in-Some.ensures ∙ ap Some (sym c.as_slice.ensures) in
    over next_of c.args.state.now c.in_ok-bad_argument.field-0
    (Leaves Error (text_of (flaw.BadArgument word (codes "switch")))) s _ fits
    c.in_ok-bad_argument.ensures
    (arms_left c.args.levels (mode_of c.args.mode) c.args.text.now c.args.arms.now s word is)

pub returns-in-Ok-Some-clause-nests : goal.returns-in-Ok-Some-clause-nests
returns-in-Ok-Some-clause-nests g c = λ s fits.
    let levels = c.args.levels in
    let body = c.as_slice-in-Ok-Some.result.now in
    let came = rw c.in-Ok-Some.is at c.in_ok-body.ensures in
    let found : option_copied c.in-Ok-Some.field-0 ≡ Some body =
    ap option_copied c.in-Ok-Some.field-0-is ∙ ap Some (sym c.as_slice-in-Ok-Some.ensures) in
    on_ok c.run.result (λ n nests.
    nests_after next_of c.run.new.state n _ _
    (then_reaches
    (same_reaches (arms_tried levels (mode_of c.args.mode) c.args.text.now c.args.arms.now s
    (sym c.in_default.ensures)))
    (then_reaches (came s (runs_body levels s)) (same_reaches (ap (runs_body levels s) found))))
    nests)
    (c.run.ensures.nests s fits)

pub returns-in-Ok-None-clause-nests : goal.returns-in-Ok-None-clause-nests
returns-in-Ok-None-clause-nests g c = λ s fits.
    let levels = c.args.levels in
    let came = rw c.in-Ok-None.is at c.in_ok-body.ensures in
    nests_after next_of c.args.state.now _ _ _
    (then_reaches
    (same_reaches (arms_tried levels (mode_of c.args.mode) c.args.text.now c.args.arms.now s
    (sym c.in_default.ensures)))
    (then_reaches (came s (runs_body levels s))
    (same_reaches (ap (runs_body levels s) (ap option_copied c.in-Ok-None.field-0-is)))))
    (over next_of c.args.state.now (Ok c.empty.result) (Gives []) s _ fits
    (ap (λ v. Gives v) c.empty.ensures) refl)

pub returns-in_ok-raised-in-Err-clause-nests : goal.returns-in_ok-raised-in-Err-clause-nests
returns-in_ok-raised-in-Err-clause-nests g c = λ s fits.
    let levels = c.args.levels in
    let came = rw c.in-Err.is at c.in_ok-body.ensures in
    nests_after next_of c.args.state.now _ _ _
    (then_reaches
    (same_reaches (arms_tried levels (mode_of c.args.mode) c.args.text.now c.args.arms.now s
    (sym c.in_default.ensures)))
    (came s (runs_body levels s)))
    (over next_of c.args.state.now c.in_ok-raised-in-Err.field-0 (raised c.in-Err.fault) s _ fits
    c.in_ok-raised-in-Err.ensures refl)
