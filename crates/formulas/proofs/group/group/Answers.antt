use Rattle.tclparse.specs.Formula.{no_links}
use Rattle.formulas.specs.View.{formula_of, links_then}
use Rattle.formulas.proofs.Groups.{level_joined}
use Rattle.formulas.proofs.group.group.Goals as goal

pub loop-done-preserved : goal.loop-done-preserved
loop-done-preserved g c =
    level_joined c.loop-done.done _ _ (formula_of c.args.first)
    (links_then c.args.links.items no_links) c.loop-done.invariant c.in_ok-joined.ensures
