use Rattle.tcltext.proofs.Spellings as spellings
use Rattle.tcltext.proofs.laws.list_is_spellings.Goals as goal

pub returns : goal.returns
returns c = spellings.list_is_spellings
