use Rattle.tcltext.proofs.Pairing.{one_pair}
use Rattle.tcltext.proofs.laws.one_closing_brace.Goals as goal

pub returns : goal.returns
returns c = one_pair
