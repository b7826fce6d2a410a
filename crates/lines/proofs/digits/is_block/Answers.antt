use Rattle.std.proofs.Common.{◌∙◌}
use Rattle.lines.proofs.Lanes.{block_lower}
use Rattle.lines.proofs.digits.is_block.Goals as goal

pub returns : goal.returns
returns c =
    c.are_marked.ensures
    ∙ block_lower c.args.text.now c.marks_of_half.result c.marks_of_half-2.result c.both.result
    c.marks_of_half.ensures c.marks_of_half-2.ensures c.both.ensures
