use Rattle.std.proofs.Common.{refl, ap, subst, reverse}
use Rattle.tclparse.specs.ScriptTree.{ScriptTree}
use Rattle.machine.proofs.Below.{code_whole}
use Rattle.plan.specs.Plan.{and_then, onward}
use Rattle.runs.specs.Run.{most_levels}
use Rattle.runs.specs.Scripts.{script as meant}
use Rattle.state.specs.Prelude.{on_value}
use Rattle.steps.specs.Run.{Awaits}
use Rattle.machine.proofs.running.Running.begin.Goals as goal

pub returns : goal.returns
returns g c =
    code_whole c.in_ok-tree.tree c.args.text.now c.in_ok-tree.ensures.tree _ c.in_ok-run.run' refl
    (ap reverse c.new-2.ensures.items) (ap reverse c.new-3.ensures.items)
    (λ last. subst
    (λ (tree : ScriptTree). Awaits last c.in_ok-run.run' (λ s outcome.
    and_then (on_value (meant most_levels tree.commands tree.fault) s outcome) (onward last)))
    c.in_ok-script.ensures (c.in_ok-run.ensures.awaits last))
