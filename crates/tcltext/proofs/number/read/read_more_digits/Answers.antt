use Rattle.std.proofs.Common.{sym, ◌∙◌}
use Rattle.tcltext.proofs.Numbers.{number_ends, number_overflows}
use Rattle.tcltext.proofs.number.read.read_more_digits.Goals as goal

pub returns-in_err-value : goal.returns-in_err-value
returns-in_err-value c =
    c.from_residual.ensures
    ∙ sym (number_overflows c.args.text.now c.loop-rest.rest.now c.args.base c.loop-rest.value
    c.value-digit.result c.loop-rest.invariant.number c.in-len1-up.len_at_least c.requires
    c.value-digit.ensures.value c.if-digit-base.false c.in_err-value.ensures)

pub returns : goal.returns
returns c = number_ends c.args.text.now c.loop-rest.rest.now c.args.base c.loop-rest.value
    c.loop-rest.invariant.number c.in_default.len_below c.loop-rest.invariant.fits
