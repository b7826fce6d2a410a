use Rattle.meanings.proofs.Splits.{is_no_list}
use Rattle.meanings.proofs.list.joined.Goals as goal
use Rattle.tcltext.specs.Seen.{flaw_of}

pub returns-in-Err-clause-fault : goal.returns-in-Err-clause-fault
returns-in-Err-clause-fault g c =
    is_no_list c.args.text.now c.no_list.result (flaw_of c.in-Err.fault) c.no_list.ensures
    c.in-Err.ensures.fault
