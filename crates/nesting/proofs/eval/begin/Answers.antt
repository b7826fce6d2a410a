use Rattle.std.proofs.Common.{◌∙◌, sym}
use Rattle.acts.specs.Flaw as flaw
use Rattle.state.specs.Prelude.{text_of, Leaves, Error}
use Rattle.std.specs.Prelude.{codes}
use Rattle.nesting.specs.Eval.{next_of}
use Rattle.nesting.proofs.Nestings.{nests_from, on_ok, over}
use Rattle.nesting.proofs.Evals.{eval_none, eval_some}
use Rattle.nesting.proofs.eval.begin.Goals as goal

pub returns-then-is_empty-clause-nests : goal.returns-then-is_empty-clause-nests
returns-then-is_empty-clause-nests g c = λ s fits.
    over next_of c.args.state.now c.in_ok-wrong_args.field-0
    (Leaves Error (text_of (flaw.WrongArgs (codes "eval")))) s _ fits c.in_ok-wrong_args.ensures
    (eval_none c.args.levels s c.args.args.now (sym c.if-is_empty.ensures))

pub returns-clause-nests : goal.returns-clause-nests
returns-clause-nests g c = λ s fits.
    on_ok c.run.result (λ n nests.
    nests_from next_of c.run.new.state n _ _
    (eval_some c.args.levels s c.args.args.now c.deref.result.now (sym c.if-is_empty.ensures)
    (c.deref.ensures.value ∙ c.in_ok-text.ensures))
    nests)
    (c.run.ensures.nests s fits)
