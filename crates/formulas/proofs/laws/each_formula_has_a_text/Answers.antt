use Rattle.formulas.proofs.SpellableFormulas.{formula_spells}
use Rattle.formulas.proofs.laws.each_formula_has_a_text.Goals as goal

pub returns-clause-no_others : goal.returns-clause-no_others
returns-clause-no_others c = λ formula text h. formula_spells formula text h
