use Rattle.std.proofs.Common.{Ok, subst}
use Rattle.acts.specs.Flaw.{flaw_of}
use Rattle.code.specs.ReadsCode.{ReadsCode}
use Rattle.code.specs.declared.made.Made.TheVariants as made
use Rattle.machine.specs.Frames.{stack}
use Rattle.state.specs.Piece.{FormulaText}
use Rattle.state.specs.Prelude.{IsTree}
use Rattle.machine.proofs.Texts.{fault_puts, made_puts}
use Rattle.machine.proofs.inner.put_value.Goals as goal

pub returns-in_ok-push-in-Ok : goal.returns-in_ok-push-in-Ok
returns-in_ok-push-in-Ok g c =
    let formula = c.in-Ok.formula in (
      Ok formula,
      subst (λ text. IsTree (FormulaText text) (Ok formula)) c.text_of.ensures c.in-Ok.ensures,
      made_puts (stack c.args.frames.now) (stack c.push.new.frames) (made.Formula formula)
          c.args.levels c.empty.result c.empty.ensures c.in_ok-push-in-Ok.ensures,
    )

pub returns-in_ok-raised-in-Err-Fault : goal.returns-in_ok-raised-in-Err-Fault
returns-in_ok-raised-in-Err-Fault g c =
    fault_puts (stack c.args.frames.now) _ c.args.levels c.read.result c.in-Err-Fault.field-0
    c.in-Err-Fault.fault (flaw_of c.no_formula.result) c.in_ok-raised-in-Err-Fault.field-0
    c.in-Err-Fault.is c.in-Err-Fault.field-0-is
    (subst (λ text. ReadsCode text c.read.result) c.text_of.ensures c.read.ensures)
    c.no_formula.ensures c.in_ok-raised-in-Err-Fault.ensures
