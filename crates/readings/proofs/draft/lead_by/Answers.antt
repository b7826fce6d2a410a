use Rattle.std.proofs.Common.{ap}
use Rattle.choices.specs.Views.{awaited_of}
use Rattle.readings.proofs.Leads.{led}
use Rattle.readings.proofs.draft.lead_by.Goals as goal

pub returns : goal.returns
returns g c =
    led (awaited_of c.args.awaited.now) c.in-Sought.pattern c.in_ok-lead.lead
    (ap awaited_of c.in-Sought.is) c.in_ok-lead.ensures.lead
