use Rattle.tcltext.specs.Seen.{texts, flaw_of}
use Rattle.readings.proofs.IdLists.{listed_by, no_list}
use Rattle.readings.proofs.id_list.listed_ids.Goals as goal

pub returns-in-Ok : goal.returns-in-Ok
returns-in-Ok g c = listed_by c.args.text.now (texts c.deref.result.now) c.spelled_ids.result
    (rw c.deref.ensures.value c.in-Ok.ensures.list) c.spelled_ids.ensures

pub returns-in-Err : goal.returns-in-Err
returns-in-Err g c = no_list c.args.text.now (flaw_of c.in-Err.fault) c.no_ids.result
    c.no_ids.ensures.none c.no_ids.ensures.flaw c.in-Err.ensures.fault
