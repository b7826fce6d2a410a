use Rattle.std.proofs.Common.{◌≡◌, ◌∙◌, Some, pos, sym, rules}
use Rattle.pure.proofs.Fixed.{fixed}
use Rattle.pure.proofs.Whole.{whole_read}
use Rattle.pure.proofs.place.fixed_place.Goals as goal

pub returns-in-Ok-clause-place : goal.returns-in-Ok-clause-place
returns-in-Ok-clause-place g c =
    let same : c.in_ok-number.field-0 ≡ pos c.in-Ok.place = search rules in
    let read : c.number.result ≡ Some c.in_ok-number.field-0 = search rules in
    fixed c.args.word.now c.in_ok-number.field-0 c.in-Ok.place
    (sym (whole_read c.args.word.now c.number.result c.number.ensures.value
    c.number.ensures.in_range) ∙ read) same
