use Rattle.tcltext.proofs.Within as within
use Rattle.tcltext.proofs.laws.number_is_numeral.Goals as goal

pub returns : goal.returns
returns c = within.number_is_numeral
