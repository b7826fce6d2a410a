use Rattle.std.proofs.Common.{take}
use Rattle.recorders.proofs.Counts.{parted}
use Rattle.recorders.proofs.record_file.gather_in.Goals as goal

pub returns-clause-gathers : goal.returns-clause-gathers
returns-clause-gathers g c =
    let gone = c.put_count-gone.result in (
      take gone c.bytes-2.result.now,
      c.put_count-gone.ensures.gets,
      rw (
        c.saturating_sub.ensures,
        c.drop_front.ensures,
        c.truncate.ensures,
        c.max.ensures,
        c.bytes-2.ensures.bytes,
        c.bytes-before.ensures.bytes,
        c.add.ensures,
      )
          (parted c.args.gathered.now.bytes.items c.args.text.now gone),
    )
