use Rattle.kinds.specs.Edits.{EndsLog, edited}
use Rattle.output.proofs.log_file.answered.Goals as goal

pub returns-in-Closed-default-clause-shows : goal.returns-in-Closed-default-clause-shows
returns-in-Closed-default-clause-shows g c = λ s fits.
    let opened = c.open.ensures 1 (edited EndsLog s) c.end_log.new.state
    (c.end_log.ensures.fits s fits) in
    rw c.in-Closed-default.is-0 opened
