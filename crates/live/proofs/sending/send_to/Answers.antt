use Rattle.std.proofs.Common.{◌++◌, ◌∙◌, [], take}
use Rattle.live.proofs.Exchanging.{exchanged_failed, exchanged_nothing, exchanged_on}
use Rattle.live.proofs.Texts.{onward}
use Rattle.live.proofs.sending.send_to.Goals as goal

pub text-preserved : goal.text-preserved
text-preserved g c =
    let (front, whole, unrefused, same, before) = c.text.invariant in
    let rest = c.text.rest.now in
    let n = c.in-Ok.count in (
      front ++ take n rest,
      onward c.args.text.now front rest n whole,
      unrefused,
      c.send_some.ensures.owner ∙ same,
      exchanged_on g.S.System.step _ _ _ _ _ _ _ _ front (take n rest) _ before same
          c.in-Ok.ensures.exchanged,
    )

pub returns-in_default-clause-exchanged : goal.returns-in_default-clause-exchanged
returns-in_default-clause-exchanged g c =
    let (front, whole, unrefused, same, before) = c.text.invariant in
    exchanged_failed g.S.System.step _ _ _ _ _ _ front _ _ c.failed.ensures whole
    (exchanged_nothing g.S.System.step _ _ _ _ _ _ _ _ front [] before same
    (c.in-Err.ensures.exchanged
    (λ e. c.in_default.not-OutOfMemory (c.kind.ensures ∙ e))))
