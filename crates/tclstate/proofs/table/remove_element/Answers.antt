use Rattle.std.proofs.Common.{refl, ap, ◌∙◌, sym}
use Rattle.std.specs.Option.{option_map}
use Rattle.tclstate.specs.Stored.{texts_of}
use Rattle.tclstate.proofs.Entries.{found_lookup, without_removed}
use Rattle.tclstate.proofs.table.remove_element.Goals as goal

pub returns-in-None-clause-absent : goal.returns-in-None-clause-absent
returns-in-None-clause-absent g c = (
  refl,
  found_lookup (λ v. v) c.args.elements.now.entries c.args.index.now
      ∙ ap (option_map (λ v. v)) (sym c.in-None.ensures.value),
)

pub returns-clause-ok : goal.returns-clause-ok
returns-clause-ok g c = ap texts_of c.shift_remove.ensures.entries
    ∙ without_removed (λ v. v) c.args.elements.now.entries c.args.index.now

pub returns-clause-found : goal.returns-clause-found
returns-clause-found g c =
    let e = found_lookup (λ v. v) c.args.elements.now.entries c.args.index.now
    ∙ ap (option_map (λ v. v)) (sym c.shift_remove.ensures.value ∙ c.in-Some.is) in
    rw e refl
