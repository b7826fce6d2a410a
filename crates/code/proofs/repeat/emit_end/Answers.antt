use Rattle.std.proofs.Common.{rules, sym, subst}
use Rattle.code.proofs.Turns.{no_step_block}
use Rattle.code.specs.Blocks.{StepBlock}
use Rattle.code.proofs.repeat.emit_end.Goals as goal

pub returns-in_ok-emit_step-in-Some : goal.returns-in_ok-emit_step-in-Some
returns-in_ok-emit_step-in-Some g c =
    subst (λ s. StepBlock c.args.code.now.items c.emit_step.new.code.items s) (sym c.in-Some.is)
    c.in_ok-emit_step-in-Some.ensures

pub returns-in_ok-push-in-None : goal.returns-in_ok-push-in-None
returns-in_ok-push-in-None g c =
    no_step_block c.args.code.now.items c.push.new.self.items c.args.step.now c.in-None.is
    (search rules)
