use Rattle.steps.proofs.Leads.Each.{code_leads}
use Rattle.steps.proofs.laws.instructions_lead.Goals as goal

pub returns-clause-several : goal.returns-clause-several
returns-clause-several g c = code_leads
