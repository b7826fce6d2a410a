use Rattle.std.proofs.Common.{Some, refl, ap, ◌∙◌, sym}
use Rattle.std.specs.Option.{option_map}
use Rattle.tclstate.specs.Pairs.{put}
use Rattle.tclstate.specs.Stored.{texts_of}
use Rattle.tclstate.proofs.Entries.{found_lookup, put_set}
use Rattle.tclstate.proofs.table.take_element.Goals as goal

pub returns-in-Some-clause-value : goal.returns-in-Some-clause-value
returns-in-Some-clause-value g c =
    found_lookup (λ v. v) c.args.elements.now.entries c.args.index.now
    ∙ ap (option_map (λ v. v)) (sym c.in-Some.ensures.value) ∙ ap Some (sym c.replace.ensures.value)

pub returns-in-Some-clause-emptied : goal.returns-in-Some-clause-emptied
returns-in-Some-clause-emptied g c =
    ap texts_of (c.get_mut.follows.holds c.replace.new.dest).0
    ∙ put_set (λ v. v) c.args.elements.now.entries c.args.index.now _ c.replace.new.dest
    (sym c.in-Some.ensures.value)
    ∙ ap (put (texts_of c.args.elements.now.entries) c.args.index.now)
    (c.replace.ensures.after ∙ c.empty.ensures)

pub returns-in-None-clause-absent : goal.returns-in-None-clause-absent
returns-in-None-clause-absent g c = (
  refl,
  found_lookup (λ v. v) c.args.elements.now.entries c.args.index.now
      ∙ ap (option_map (λ v. v)) (sym c.in-None.ensures.value),
)
