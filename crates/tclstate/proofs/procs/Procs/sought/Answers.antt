use Rattle.std.proofs.Common.{◌≡◌, Option, Some, None, refl, sym, ap, ◌∙◌}
use Rattle.std.specs.Option.{option_map}
use Rattle.tclstate.specs.Pairs.{found}
use Rattle.tclstate.proofs.Entries.{found_lookup}
use Rattle.tclstate.proofs.procs.Procs.sought.Goals as goal

map_same : {X : Type 0} (o : Option X) → option_map (λ x. x) o ≡ o
map_same None = refl
map_same (Some x) = refl

pub returns : goal.returns
returns g c =
    let name = c.args.name.now in
    c.found_near.ensures
    ∙ sym (ap (λ f. found f name) (sym c.self.view_is)
    ∙ found_lookup (λ p. p) c.self.inside.procedures.entries name ∙ map_same _)
