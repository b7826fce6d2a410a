use Rattle.std.proofs.Common.{ap, take, []}
use Rattle.live.proofs.Exchanging.{exchanged_no_write, exchanged_on, exchanged_write}
use Rattle.live.proofs.sending.send_some.Goals as goal

pub returns-in-Ok-eq0-clause-exchanged : goal.returns-in-Ok-eq0-clause-exchanged
returns-in-Ok-eq0-clause-exchanged g c = λ known.
    exchanged_no_write g.S.System.step _ _ _ _ (take c.in-Ok-eq0.field-0 c.args.rest.now)
    (ap (λ n. take n c.args.rest.now) c.in-Ok-eq0.field-0-test) c.in-Ok-eq0.ensures.step

pub returns-in-Ok-clause-exchanged : goal.returns-in-Ok-clause-exchanged
returns-in-Ok-clause-exchanged g c =
    exchanged_write g.S.System.step _ _ _ _ _ c.in-Ok.ensures.step

pub returns-in-Interrupted-clause-exchanged : goal.returns-in-Interrupted-clause-exchanged
returns-in-Interrupted-clause-exchanged g c =
    exchanged_write g.S.System.step _ _ _ _ [] c.in-Err.ensures.step

pub returns-in_default-clause-exchanged : goal.returns-in_default-clause-exchanged
returns-in_default-clause-exchanged g c = λ known.
    exchanged_write g.S.System.step _ _ _ _ [] c.in-Err.ensures.step

pub returns-in-Ok-hear-clause-exchanged : goal.returns-in-Ok-hear-clause-exchanged
returns-in-Ok-hear-clause-exchanged g c =
    exchanged_on g.S.System.step _ _ _ _ _ _ _ _ [] [] []
    (exchanged_write g.S.System.step _ _ _ _ [] c.in-Err.ensures.step) c.write.ensures.owner
    c.in-Ok-hear.ensures.exchanged

pub returns-in-Err-hear-clause-exchanged : goal.returns-in-Err-hear-clause-exchanged
returns-in-Err-hear-clause-exchanged g c = λ known.
    exchanged_on g.S.System.step _ _ _ _ _ _ _ _ [] [] []
    (exchanged_write g.S.System.step _ _ _ _ [] c.in-Err.ensures.step) c.write.ensures.owner
    (c.in-Err-hear.ensures.exchanged known)
