use Rattle.std.proofs.Common.{◌∙◌}
use Rattle.searches.proofs.Scans.{part_lead}
use Rattle.searches.proofs.lead.Lead.of_part.Goals as goal

pub returns : goal.returns
returns g c =
    let made = part_lead c.args.folds c.args.text.now c.args.last.text.now c.in_ok-value.value
    c.args.last.size c.args.pattern.now c.in-Some.part c.requires.glob c.requires.within
    c.in_ok-value.ensures (rw c.in-Some.is at c.in_ok-read.ensures) in
    record {
      lead = record { run = made.0; seeks = (c.in_ok-part.ensures.ok ∙ made.1, made.2) };
    }
