use Rattle.worlds.specs.declared.input.Unread.TheVariants.{Refused}
use Rattle.worlds.proofs.Scripts.{still_refused}
use Rattle.worlds.proofs.program.text_with.Goals as goal

pub returns-in_err-file-clause-refused : goal.returns-in_err-file-clause-refused
returns-in_err-file-clause-refused g c = λ refused.
    c.in_err-file.ensures.refused (still_refused c.from_residual-in_err-file.result
    c.in_err-file.field-0.0 Refused c.from_residual-in_err-file.ensures.1 refused)
