use Rattle.runs.proofs.AllRuns as runs
use Rattle.runs.proofs.laws.answers_decide.Goals as goal

pub returns-clause-each : goal.returns-clause-each
returns-clause-each c = runs.answers_lead

pub returns-clause-whole : goal.returns-clause-whole
returns-clause-whole c = runs.answers_decide
