use Rattle.searches.proofs.Scans.{quoted_sign}
use Rattle.searches.proofs.run.quoted_sign.Goals as goal

pub returns-in-Some : goal.returns-in-Some
returns-in-Some c = quoted_sign c.args.rest.now _ _ c.in-Some.ensures.cases.0
