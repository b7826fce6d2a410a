use Rattle.std.proofs.Common.{◌∙◌, ap}
use Rattle.readings.specs.Drafts.{wanted_of, with_branch}
use Rattle.readings.specs.Reads.{place}
use Rattle.readings.proofs.Goes.{body_read, no_body_read}
use Rattle.readings.proofs.reading.read_branch.Goals as goal

pub returns-in_default-clause-goes_on : goal.returns-in_default-clause-goes_on
returns-in_default-clause-goes_on g c =
    let at = c.args.at.now in
    let wanted = wanted_of c.args.wanted in
    no_body_read (place at.table.now.lines at.current at.standing) c.args.draft.now
    c.add_branch.new.self wanted c.args.rest.now c.in_default.ensures.cases
    c.in_ok-add_branch.ensures.ok (c.in_ok-add_branch.ensures.new
    ∙ ap (λ b. with_branch at.current wanted b c.args.draft.now) c.empty.ensures)

pub returns-clause-goes_on : goal.returns-clause-goes_on
returns-clause-goes_on g c =
    let at = c.args.at.now in
    body_read (place at.table.now.lines at.current at.standing) c.args.draft.now
    c.add_branch-2.new.self (wanted_of c.args.wanted) c.args.rest.now c.in-Some.body.now
    c.in_ok-share.field-0 c.in-Some.behind.now c.in-Some.ensures.cases.0 c.in_ok-share.ensures
    c.in_ok-add_branch-2.ensures.ok c.in_ok-add_branch-2.ensures.new
