use Rattle.readings.specs.Reads.{place}
use Rattle.readings.proofs.Goes.{ids_read}
use Rattle.readings.proofs.reading.read_ids.Goals as goal

pub returns-clause-goes_on : goal.returns-clause-goes_on
returns-clause-goes_on g c =
    let at = c.args.at.now in
    ids_read (place at.table.now.lines at.current at.standing) c.args.draft.now
    c.add_ids.new.self c.args.rest.now c.in-Some.list.now c.as_slice.result.now
    c.in-Some.behind.now c.in_ok-ids.ids.items c.in-Some.ensures.cases.0 c.as_slice.ensures
    c.in_ok-ids.ensures.ids c.in_ok-add_ids.ensures
