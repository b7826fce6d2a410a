use Rattle.std.proofs.Common.{◌∙◌, ap, rules}
use Rattle.std.proofs.lemmas.Int.{to_z-of_z}
use mir.Syntax.{w64}
use mir.Val.{SFits}
use Rattle.readings.specs.Drafts.{with_seconds}
use Rattle.readings.specs.Reads.{place}
use Rattle.readings.proofs.Goes.{seconds_read}
use Rattle.readings.proofs.reading.read_seconds.Goals as goal

pub returns-clause-goes_on : goal.returns-clause-goes_on
returns-clause-goes_on g c =
    let at = c.args.at.now in
    let n = c.in-Some-read_int.seconds in
    let fits : SFits w64 n = search rules in
    seconds_read (place at.table.now.lines at.current at.standing) c.args.draft.now
    c.set_timeout.new.self c.args.rest.now c.in-Some.number.now c.as_slice.result.now
    c.in-Some.behind.now n c.in-Some.ensures.cases.0 c.as_slice.ensures
    (c.in-Some-read_int.ensures.value, c.in-Some-read_int.ensures.in_range)
    (c.set_timeout.ensures ∙ ap (λ m. with_seconds m c.args.draft.now) (to_z-of_z w64 n fits))
