use Rattle.lines.proofs.Cuts.{cut_there, cut_nowhere}
use Rattle.lines.proofs.cut.cut_at.Goals as goal

pub returns-in_err-place-clause-none : goal.returns-in_err-place-clause-none
returns-in_err-place-clause-none c =
    let none = rw c.in_err-place.was at c.memchr.ensures in
    rw c.from_residual.ensures (cut_nowhere c.args.byte c.args.text.now none)

pub returns-clause-found : goal.returns-clause-found
returns-clause-found c =
    let found = rw c.in_ok-place.was at c.memchr.ensures in
    cut_there c.args.byte c.args.text.now c.in_ok-place.place found
