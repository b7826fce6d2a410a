use Rattle.std.proofs.Common.{codes, refl}
use Rattle.records.proofs.written.write_line.Goals as goal

pub returns-in-Done : goal.returns-in-Done
returns-in-Done g c =
    rw c.in-Done.is (codes "done\n", (codes "done", refl, refl), c.put_all.ensures)

pub returns-in-Refused : goal.returns-in-Refused
returns-in-Refused g c =
    rw c.in-Refused.is (
      codes "refused\n",
      (codes "refused", refl, refl),
      c.put_all-in-Refused.ensures,
    )

pub returns-in-TimedOut : goal.returns-in-TimedOut
returns-in-TimedOut g c =
    rw c.in-TimedOut.is (
      codes "timeout\n",
      (codes "timeout", refl, refl),
      c.put_all-in-TimedOut.ensures,
    )
