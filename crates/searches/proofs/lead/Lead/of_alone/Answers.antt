use Rattle.searches.proofs.Scans.{alone_lead}
use Rattle.searches.proofs.lead.Lead.of_alone.Goals as goal

pub returns : goal.returns
returns g c =
    let made = alone_lead c.args.folds c.args.text.now c.args.last.text.now c.in_ok-value.value
    c.args.last.size c.args.pattern.now c.requires.glob c.requires.within c.requires.alone
    c.in_ok-value.ensures in
    record { lead = record { run = made.0; seeks = (made.1, made.2) } }
