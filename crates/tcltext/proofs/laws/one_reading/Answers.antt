use Rattle.tcltext.proofs.Unique.{one_list, one_flaw, no_list_with_flaw}
use Rattle.tcltext.proofs.laws.one_reading.Goals as goal

pub returns-clause-list : goal.returns-clause-list
returns-clause-list c = one_list

pub returns-clause-flaw : goal.returns-clause-flaw
returns-clause-flaw c = one_flaw

pub returns-clause-apart : goal.returns-clause-apart
returns-clause-apart c = no_list_with_flaw
