use Rattle.std.proofs.Common.{◌∙◌}
use Rattle.tclstate.specs.InTurn.{extended, frame_extended}
use Rattle.tclstate.specs.Stored.{variable_of}
use Rattle.tclstate.proofs.Frames.{changed_in_place, unchanged_in_place}
use Rattle.tclstate.proofs.InTurn.{carried}
use Rattle.hints.proofs.Places.{lookup_at, set_at}
use Rattle.tclstate.proofs.globals.Globals.set_in_array.Goals as goal

pub returns : goal.returns
returns g c =
    let es = c.self.inside.variables.entries in
    let at = lookup_at c.args.name.now es c.in-Some.place c.get_index_mut.ensures.unique
    c.in-Some.ensures.stands in
    let is = set_at c.args.name.now es c.in-Some.place c.set_in_array.new.self
    c.get_index_mut.ensures.unique c.in-Some.ensures.stands in
    carried _ (λ l. frame_extended c.args.name.now l c.args.self.now) _ _ c.set_in_array.result
    _ _ _ _
    (λ l made. changed_in_place variable_of es _ c.self.view_is c.args.name.now (extended l)
    _ _ c.set_in_array.new.self (c.in-Some-get_index_mut.ensures.value ∙ at) is made)
    (unchanged_in_place variable_of es _ c.self.view_is c.args.name.now
    _ _ c.set_in_array.new.self (c.in-Some-get_index_mut.ensures.value ∙ at) is)
    c.set_in_array.ensures
