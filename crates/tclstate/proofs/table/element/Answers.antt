use Rattle.std.proofs.Common.{refl, ap, ◌∙◌, sym}
use Rattle.std.specs.Option.{option_map}
use Rattle.tclstate.proofs.Entries.{found_lookup}
use Rattle.tclstate.proofs.table.element.Goals as goal

pub returns-in-Some-clause-value : goal.returns-in-Some-clause-value
returns-in-Some-clause-value g c =
    found_lookup (λ v. v) c.args.elements.now.entries c.args.index.now
    ∙ ap (option_map (λ v. v)) (sym c.in-Some.ensures.value)

pub returns-in-None-clause-absent : goal.returns-in-None-clause-absent
returns-in-None-clause-absent g c = (
  refl,
  found_lookup (λ v. v) c.args.elements.now.entries c.args.index.now
      ∙ ap (option_map (λ v. v)) (sym c.in-None.ensures.value),
)
