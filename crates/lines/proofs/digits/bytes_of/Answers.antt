use Rattle.std.proofs.Common.{◌++◌, ◌∙◌, sym, ap₂}
use Rattle.std.proofs.Math.Seq.{take-add}
use Rattle.std.proofs.lemmas.List.{map-append}
use Rattle.lines.proofs.Lanes.{digit, part_lower}
use Rattle.lines.proofs.digits.bytes_of.Goals as goal

pub values_of-first-requires : goal.values_of-first-requires
values_of-first-requires c = part_lower 0 16 c.args.digits.now c.requires.lower

pub values_of-second-requires : goal.values_of-second-requires
values_of-second-requires c = part_lower 16 16 c.args.digits.now c.requires.lower

pub returns-clause-digits : goal.returns-clause-digits
returns-clause-digits c =
    let first = c.values_of-first in
    let second = c.values_of-second in
    take-add 16 16 c.args.digits.now ∙ ap₂ ◌++◌ first.ensures.values second.ensures.values
    ∙ sym (map-append digit first.result second.result) ∙ c.join.ensures.digits
