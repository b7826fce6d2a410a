use Rattle.std.proofs.Common.{◌≡◌, ◌<◌, ◌^◌, drop, sym, ap, ◌∙◌, arith}
use Rattle.std.proofs.lemmas.Fmt.{decimal_injective}
use Rattle.lines.proofs.line.read_status.Goals as goal

pub returns-else-status-clause-none : goal.returns-else-status-clause-none
returns-else-status-clause-none c = λ status small e.
    let found = c.in_ok-status.status in
    let below : found < 2 ^ 64 = omega arith in
    let same : found ≡ status = decimal_injective found status below (omega arith)
    (ap (drop 7) (sym c.in_ok-status.ensures.number ∙ e)) in
    absurd (omega (arith, same, small, c.if-status.false))
