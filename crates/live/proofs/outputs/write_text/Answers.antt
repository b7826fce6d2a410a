use Rattle.std.proofs.Common.{◌++◌, take}
use Rattle.std.proofs.KnownBytes.{Appends-trans}
use Rattle.live.proofs.Texts.{onward}
use Rattle.live.proofs.outputs.write_text.Goals as goal

pub loop-preserved : goal.loop-preserved
loop-preserved g c =
    let (sent, whole, same, gets) = c.loop.invariant in
    let rest = c.loop.rest.now in
    let n = c.in-Ok.count in (
      sent ++ take n rest,
      onward c.args.text.now sent rest n whole,
      same,
      Appends-trans _ _ _ sent (take n rest) gets
          c.in-Ok.ensures.gets,
    )
