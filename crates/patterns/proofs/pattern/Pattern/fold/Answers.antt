use Rattle.std.proofs.Common.{refl, true}
use Rattle.patterns.specs.Runs.{reading_of}
use Rattle.patterns.proofs.Needs.{nothing_needed}
use Rattle.patterns.proofs.pattern.Pattern.fold.Goals as goal

pub returns : goal.returns
returns g c = rw (← c.self.view_is) refl

pub invariant_of-result : goal.invariant_of-result
invariant_of-result g c =
    let inside = c.self.inside in
    rw c.empty.ensures (nothing_needed (reading_of inside.runs inside.ties true))
