use Rattle.std.proofs.Common.{◌+◌, length, arith}
use Rattle.tcltext.proofs.Elements.{some_left}
use Rattle.patterns.proofs.Texts.{behind, behind-length, text_nowhere, text_first, steps_of_text}
use Rattle.patterns.proofs.text.first_place.Goals as goal

pub returns-in_default-clause-place : goal.returns-in_default-clause-place
returns-in_default-clause-place c = text_nowhere c.args.bytes.now c.args.window.now c.args.from
    c.in_default.ensures

pub returns-in_default-clause-steps : goal.returns-in_default-clause-steps
returns-in_default-clause-steps c =
    let w = c.args.window.now in
    let long = behind-length w c.args.from in
    steps_of_text c.args.steps.now c.saturating_add.result (length c.args.bytes.now)
    (length (behind w c.args.from)) (length w)
    (some_left c.args.bytes.now c.if-is_empty.ensures) (omega (arith, c.saturating_add.ensures))
    (omega arith)

pub returns-clause-place : goal.returns-clause-place
returns-clause-place c = text_first c.args.bytes.now c.args.window.now c.args.from c.in-Some.passed
    c.requires c.in-Some.ensures

pub returns-clause-steps : goal.returns-clause-steps
returns-clause-steps c =
    let w = c.args.window.now in
    let long = behind-length w c.args.from in
    steps_of_text c.args.steps.now c.saturating_add-2.result (length c.args.bytes.now)
    (c.in-Some.passed + length c.args.bytes.now) (length w)
    (some_left c.args.bytes.now c.if-is_empty.ensures) (omega (arith, c.saturating_add-2.ensures))
    (omega (arith, c.in-Some.ensures.1.fits))
