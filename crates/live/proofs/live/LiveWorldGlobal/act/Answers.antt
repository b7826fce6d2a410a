use Rattle.std.proofs.Common.{refl}
use Rattle.live.proofs.Texts.{grows_by_none}
use Rattle.live.proofs.live.LiveWorldGlobal.act.Goals as goal

pub returns-in-Wait : goal.returns-in-Wait
returns-in-Wait g c =
    let same = c.deref-in-Wait.ensures.value in
    rw c.in-Wait.is (
      (rw same at c.wait.ensures.fits, rw same at c.wait.ensures.wanted),
      grows_by_none _,
      grows_by_none _,
      refl,
      refl,
      (c.wait.ensures.ids, rw same at c.wait.ensures.waits),
      c.wait.ensures.why,
    )
