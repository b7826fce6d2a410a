use Rattle.std.proofs.Common.{Some, ◌∷◌, refl, ap, ◌∙◌}
use Rattle.tclstate.specs.InTurn.{extended, frame_extended, scopes_extended}
use Rattle.tclstate.specs.Scopes.{scopes}
use Rattle.tclstate.specs.Stored.{local_of}
use Rattle.tclstate.proofs.Frames.{found_in, unchanged_in_place, put_in_place}
use Rattle.tclstate.proofs.InTurn.{carried}
use Rattle.tclstate.proofs.Reach.{changed_reached}
use Rattle.hints.proofs.Places.{lookup_at, set_at}
use Rattle.tclstate.proofs.frame.LocalFrame.set_in_array.Goals as goal

pub returns : goal.returns
returns g c outer =
    let es = c.self.inside.variables.entries in
    let at = lookup_at c.args.name.now es c.in-Some.place c.get_index_mut.ensures.unique
    c.in-Some.ensures.stands in
    let is = set_at c.args.name.now es c.in-Some.place c.set_in_array.new.self
    c.get_index_mut.ensures.unique c.in-Some.ensures.stands in
    let value = c.in-Some-get_index_mut.ensures.value ∙ at in
    carried _ (λ l. scopes_extended (scopes (c.args.self.now ∷ outer) c.args.globals.now)
    c.args.name.now l) _ _ c.set_in_array.result _ _ _ _
    (λ l made. changed_reached (extended l) (frame_extended c.args.name.now l)
    c.args.self.now c.args.globals.now c.args.name.now outer refl _ _ _ _
    (found_in local_of es _ c.self.view_is c.args.name.now (Some _) value) made
    (put_in_place local_of es _ c.self.view_is c.args.name.now _ _ c.set_in_array.new.self value is))
    (λ same i. scopes (unchanged_in_place local_of es _ c.self.view_is c.args.name.now
    _ _ c.set_in_array.new.self value is (ap (λ p. p.0) same) i ∷ outer) (same i).1)
    c.set_in_array.ensures
