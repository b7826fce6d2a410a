use Rattle.std.proofs.Common.{◌∙◌, refl, sym}
use Rattle.std.specs.Prelude.{codes}
use Rattle.acts.specs.Flaw as flaw
use Rattle.state.specs.Prelude.{text_of, raised, Leaves, Error}
use Rattle.nesting.proofs.Asked.{evaluated_then}
use Rattle.nesting.proofs.Evaluating.{expr_none, expr_some}
use Rattle.nesting.specs.Expr.{next_of, told}
use Rattle.state.specs.Evaluated.{evaluated}
use Rattle.nesting.proofs.Nestings.{nests_after, over}
use Rattle.state.proofs.Reaches.{same_reaches, then_reaches}
use Rattle.nesting.proofs.expr.begin.Goals as goal

pub returns-then-is_empty-clause-nests : goal.returns-then-is_empty-clause-nests
returns-then-is_empty-clause-nests g c = λ s fits.
    over next_of c.args.state.now c.in_ok-wrong_args.field-0
    (Leaves Error (text_of (flaw.WrongArgs (codes "expr")))) s _ fits c.in_ok-wrong_args.ensures
    (expr_none c.args.levels s c.args.args.now (sym c.if-is_empty.ensures))

pub returns-in-Ok-clause-nests : goal.returns-in-Ok-clause-nests
returns-in-Ok-clause-nests g c = λ s fits.
    let levels = c.args.levels in
    let read = rw c.in-Ok.is at c.in_ok-formula.ensures in
    record {
      status = s;
      fits = fits;
      reaches = then_reaches
          (same_reaches (expr_some levels s c.args.args.now c.deref.result.now
          (sym c.if-is_empty.ensures) (c.deref.ensures.value ∙ c.in_ok-text.ensures)))
          (then_reaches (read s (λ formula. evaluated levels formula s told))
          (same_reaches (evaluated_then told levels c.in-Ok.formula s)));
    }

pub returns-clause-nests : goal.returns-clause-nests
returns-clause-nests g c = λ s fits.
    let levels = c.args.levels in
    let read = rw c.in-Err.is at c.in_ok-formula.ensures in
    nests_after next_of c.args.state.now _ _ _
    (then_reaches
    (same_reaches (expr_some levels s c.args.args.now c.deref.result.now
    (sym c.if-is_empty.ensures) (c.deref.ensures.value ∙ c.in_ok-text.ensures)))
    (read s (λ formula. evaluated levels formula s told)))
    (over next_of c.args.state.now c.in_ok-raised-in-Err.field-0 (raised c.in-Err.fault) s _ fits
    c.in_ok-raised-in-Err.ensures refl)
