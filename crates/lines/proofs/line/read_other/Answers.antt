use Rattle.std.proofs.Common.{codes}
use Rattle.lines.proofs.Lines.{only_arrival, other_text}
use Rattle.lines.proofs.line.read_other.Goals as goal

pub returns-in-None : goal.returns-in-None
returns-in-None g c =
    let line = c.args.line.now in
    only_arrival line
    (other_text line (codes "done") _ _ c.eq.ensures c.as_slice.ensures c.if-eq.false)
    (other_text line (codes "refused") _ _ c.eq-2.ensures c.as_slice-2.ensures c.if-eq-2.false)
    (other_text line (codes "exited -") _ _ c.eq-3.ensures c.as_slice-3.ensures c.if-eq-3.false)
    (other_text line (codes "timeout") _ _ c.eq-4.ensures c.as_slice-4.ensures c.if-eq-4.false)
    c.in_default.ensures.none c.in_default-read_number.ensures.none
    c.in_default-read_status.ensures.none c.in-None.ensures.none
