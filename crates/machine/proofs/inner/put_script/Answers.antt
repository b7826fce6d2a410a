use Rattle.std.proofs.Common.{Ok, subst}
use Rattle.code.specs.declared.made.Made.TheVariants as made
use Rattle.machine.specs.Frames.{stack}
use Rattle.machine.specs.Inner.{Puts}
use Rattle.machine.proofs.Texts.{made_puts}
use Rattle.state.specs.Piece.{ScriptText}
use Rattle.state.specs.Prelude.{IsTree}
use Rattle.steps.specs.Follows.{run_by}
use Rattle.machine.proofs.inner.put_script.Goals as goal

pub returns : goal.returns
returns g c =
    let tree = c.in_ok-script.script in
    let below = stack c.args.frames.now in
    let frames = stack c.push.new.frames in (
      tree,
      subst (λ text. IsTree (ScriptText text) tree) c.text_of.ensures c.in_ok-script.ensures.tree,
      subst (λ levels. Puts (Ok c.empty.result) below frames (run_by tree levels))
          c.saturating_sub.ensures
          (made_puts below frames (made.Script tree) c.saturating_sub.result c.empty.result
          c.empty.ensures c.in_ok-push.ensures),
    )
