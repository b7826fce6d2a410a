use Rattle.choices.proofs.Choices as choices
use Rattle.choices.proofs.laws.one_choice.Goals as goal

pub returns-clause-some : goal.returns-clause-some
returns-clause-some c = choices.has_choice

pub returns-clause-alone : goal.returns-clause-alone
returns-clause-alone c = choices.one_choice
