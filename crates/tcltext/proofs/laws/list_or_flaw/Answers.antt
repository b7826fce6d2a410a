use Rattle.tcltext.proofs.Total as total
use Rattle.tcltext.proofs.laws.list_or_flaw.Goals as goal

pub returns : goal.returns
returns c = total.list_or_flaw
