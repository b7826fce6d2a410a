use Rattle.tclstate.proofs.Reading.{flaw_no_formal}
use Rattle.tclstate.proofs.formals.no_formal.Goals as goal

pub returns-in_default : goal.returns-in_default
returns-in_default c = λ text h. flaw_no_formal c.args.fault text c.in_default.not-NoMemory h
