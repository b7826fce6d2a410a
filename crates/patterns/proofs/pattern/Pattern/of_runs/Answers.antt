use Rattle.std.proofs.Common.{false, refl, sym, subst}
use Rattle.patterns.specs.Runs.{Holds, items_of_runs, reading_of}
use Rattle.patterns.proofs.Needs.{Holds-needs}
use Rattle.patterns.proofs.pattern.Pattern.of_runs.Goals as goal

pub invariant_of-result : goal.invariant_of-result
invariant_of-result g c =
    let pattern = reading_of c.args.runs c.args.ties false in
    Holds-needs pattern c.in_ok-needs.needs refl
    (subst (Holds (items_of_runs c.args.runs)) (sym c.in_ok-needs.ensures) c.text.ensures)
