use Rattle.tcltext.proofs.Written as written
use Rattle.tcltext.proofs.laws.reads_back.Goals as goal

pub returns-clause-list : goal.returns-clause-list
returns-clause-list c = written.reads_back

pub returns-clause-alone : goal.returns-clause-alone
returns-clause-alone c = written.reads_back_alone

pub returns-clause-sound : goal.returns-clause-sound
returns-clause-sound c = written.written_has_no_flaw
