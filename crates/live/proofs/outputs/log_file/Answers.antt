use Rattle.std.proofs.Common.{refl, [], inl}
use Rattle.live.specs.Calls.{OpenLog}
use Rattle.live.proofs.Refusing.{handed_on, refused_next, unmade_next}
use Rattle.live.proofs.outputs.log_file.Goals as goal

pub returns-in_err-text_of-clause-stops : goal.returns-in_err-text_of-clause-stops
returns-in_err-text_of-clause-stops g c =
    handed_on c.from_residual.result c.in_err-text_of.field-0.0 _ c.from_residual.ensures.1
    (unmade_next g.S.System.step _ _ [] (OpenLog c.args.name.now c.args.mode) [] _
    c.in_err-text_of.field-0.0 refl refl
    (inl c.in_err-text_of.ensures.refused))

pub returns-in_err-open_log-clause-stops : goal.returns-in_err-open_log-clause-stops
returns-in_err-open_log-clause-stops g c =
    handed_on c.from_residual-in_err-open_log.result c.in_err-open_log.field-0.0 _
    c.from_residual-in_err-open_log.ensures.1
    (refused_next g.S.System.step _ _ _ [] (OpenLog c.args.name.now c.args.mode) [] _
    c.in_err-open_log.field-0.0 refl refl
    c.in_err-open_log.ensures.step)
