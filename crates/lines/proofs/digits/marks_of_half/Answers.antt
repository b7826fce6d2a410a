use Rattle.lines.proofs.Lanes.{half_lower}
use Rattle.lines.proofs.digits.marks_of_half.Goals as goal

pub returns : goal.returns
returns c =
    half_lower c.args.text.now c.marks_of-first.result c.marks_of-second.result
    c.marks_of-third.result c.marks_of-fourth.result c.both.result c.both-2.result c.both-3.result
    c.marks_of-first.ensures c.marks_of-second.ensures c.marks_of-third.ensures
    c.marks_of-fourth.ensures c.both.ensures c.both-2.ensures c.both-3.ensures
