use Rattle.lines.proofs.Lanes.{none_clear}
use Rattle.lines.proofs.digits.are_marked.Goals as goal

pub returns : goal.returns
returns c = none_clear c.args.marks c.fits-marks.0
