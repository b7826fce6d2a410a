use Rattle.searches.proofs.Scans.{text_lead}
use Rattle.searches.proofs.lead.Lead.of_text.Goals as goal

pub returns : goal.returns
returns g c =
    let made = text_lead c.args.folds c.args.text.now c.in_ok-value.value c.args.pattern.now
    c.requires c.in_ok-value.ensures in
    record { lead = record { run = made.0; seeks = made.1 } }
