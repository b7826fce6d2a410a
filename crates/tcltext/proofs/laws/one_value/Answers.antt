use Rattle.tcltext.proofs.Numerals as numerals
use Rattle.tcltext.proofs.laws.one_value.Goals as goal

pub returns : goal.returns
returns c = numerals.one_value
