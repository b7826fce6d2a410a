use Rattle.std.proofs.Common.{◌∷◌, ◌++◌, decimal, refl, arith}
use Rattle.lines.proofs.RowTexts.{held_cut, id_cut, size_cut}
use Rattle.lines.proofs.rows.cut_row.Goals as goal

pub returns-in_err-held-clause-none : goal.returns-in_err-held-clause-none
returns-in_err-held-clause-none c = rw c.from_residual-in_err-held.ensures (λ row rest is ends e.
    let (id, some, most, fits, want) = is in
    c.in_err-held.ensures.none row.held (58 ∷ (decimal row.max ++ rest)) (omega arith) refl
    (id_cut c.args.text.now c.in_ok-id.sizes.now rest c.in_ok-id.id.0 row is
    c.in_ok-id.ensures.spelled e).1)

pub returns-in_err-max-clause-none : goal.returns-in_err-max-clause-none
returns-in_err-max-clause-none c = rw c.from_residual-in_err-max.ensures (λ row rest is ends e.
    let (id, some, most, fits, want) = is in
    c.in_err-max.ensures.none row.max rest (omega arith) ends
    (held_cut c.args.text.now c.in_ok-id.sizes.now c.in_ok-held.behind.now rest c.in_ok-id.id.0
    c.in_ok-held.held row is c.in_ok-id.ensures.spelled c.in_ok-held.ensures.spelled e).1)

pub returns-in_err-row-clause-none : goal.returns-in_err-row-clause-none
returns-in_err-row-clause-none c = rw c.from_residual-in_err-row.ensures (λ row rest is ends e.
    let (id, some, most, fits, want) = is in
    let (held, behind) = held_cut c.args.text.now c.in_ok-id.sizes.now c.in_ok-held.behind.now rest
    c.in_ok-id.id.0 c.in_ok-held.held row is c.in_ok-id.ensures.spelled c.in_ok-held.ensures.spelled
    e in
    let (below, cut, after) = c.in_ok-max.ensures.spelled in
    let max = (size_cut c.in_ok-held.behind.now c.in_ok-max.rest.now rest c.in_ok-max.max row.max
    below (omega arith) after ends cut behind).0 in
    c.in_err-row.ensures.none (omega arith) (omega arith) (omega arith))
