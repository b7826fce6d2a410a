use Rattle.std.proofs.Common.{◌++◌, subst}
use Rattle.std.specs.Prelude.{IfOk}
use Rattle.readings.specs.Drafts.{GoesOn}
use Rattle.readings.specs.Parts.{Sign, alone_part, expected_by, parts, parts_from}
use Rattle.readings.specs.Reads.{place}
use Rattle.readings.proofs.Goes.{flag_read}
use Rattle.readings.proofs.reading.read_part.Goals as goal

pub returns-in-Mark-clause-goes_on : goal.returns-in-Mark-clause-goes_on
returns-in-Mark-clause-goes_on g c =
    let at = c.args.at.now in
    flag_read (place at.table.now.lines at.current at.standing) c.args.draft.now c.mark.new.self
    c.args.word.now c.args.rest.now c.in-Mark.mark c.in-Mark.ensures c.mark.ensures

pub returns-in-Keyword-clause-goes_on : goal.returns-in-Keyword-clause-goes_on
returns-in-Keyword-clause-goes_on g c =
    let at = c.args.at.now in
    subst (λ (s : Sign). IfOk c.read_branch.result (λ behind.
    GoesOn (place at.table.now.lines at.current at.standing) c.args.draft.now
    (alone_part s ++ parts_from at.standing (expected_by s) c.args.rest.now)
    c.read_branch.new.draft (parts at.standing behind.now)))
    c.in-Keyword.ensures c.read_branch.ensures.goes_on
