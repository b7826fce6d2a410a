use Rattle.std.proofs.Common.{◌<◌}
use Rattle.patterns.proofs.Sets.{marked_holds, holds_marked}
use Rattle.patterns.proofs.token.Token.takes.Goals as goal

pub returns-in-Set : goal.returns-in-Set
returns-in-Set g c =
    let below : c.args.byte < 256 = c.ranges.byte.fits in
    rw (c.in-Set.is, c.deref.ensures) (
      marked_holds c.in-Set.table.value c.args.byte below,
      holds_marked c.in-Set.table.value c.args.byte,
    )
