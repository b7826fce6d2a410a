use Rattle.std.proofs.Common.{◌≡◌, length, ap, arith}
use Rattle.tclstate.proofs.Reading.{wrong_count}
use Rattle.tclstate.proofs.formals.read_formal.Goals as goal

pub returns-in-empty-clause-fault : goal.returns-in-empty-clause-fault
returns-in-empty-clause-fault g c =
    let same : length c.as_slice.result.now ≡ length c.in-Ok.parts.items =
    ap length c.as_slice.ensures.value in
    wrong_count c.in-Ok.parts.items c.args.text.now c.in-Ok.ensures.list
    (λ e. omega (arith, c.in-empty.len_below)) (λ e. omega (arith, c.in-empty.len_below))

pub returns-clause-fault : goal.returns-clause-fault
returns-clause-fault g c =
    let same : length c.as_slice.result.now ≡ length c.in-Ok.parts.items =
    ap length c.as_slice.ensures.value in
    wrong_count c.in-Ok.parts.items c.args.text.now c.in-Ok.ensures.list
    (λ e. omega (arith, c.in-len3-up.len_at_least))
    (λ e. omega (arith, c.in-len3-up.len_at_least))
