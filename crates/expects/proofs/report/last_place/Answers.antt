use Rattle.std.proofs.Common.{◌≡◌, arith}
use Rattle.expects.proofs.report.last_place.Goals as goal

pub returns-in-None : goal.returns-in-None
returns-in-None g c =
    let zero : c.args.end ≡ 0 = omega (arith, c.in-None.ensures) in rw zero c.print_int.ensures
