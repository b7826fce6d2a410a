use Rattle.std.proofs.Common.{◌≡◌, drop}
use Rattle.tclparse.specs.Formula.{no_links}
use Rattle.formulas.specs.Group.{has_level}
use Rattle.formulas.specs.View.{links_then}
use Rattle.formulas.proofs.group.has_level.Given as goal

abbrev pub invariant-loop-link : goal.invariant-loop-link
invariant-loop-link g l = has_level l.level (links_then l.links no_links)
    ≡ has_level l.level (links_then (drop l.link-index l.links) no_links)
