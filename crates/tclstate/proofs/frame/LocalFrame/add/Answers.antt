use Rattle.std.proofs.Common.{List, ◌∷◌, Some, None, refl, sym, subst, ◌∙◌}
use Rattle.std.proofs.lemmas.Option.{IfSome_then}
use Rattle.tclstate.specs.Scopes.{Frame, NoVariable, changed, frame_written, read, scopes}
use Rattle.tclstate.specs.Stored.{local_of}
use Rattle.tclstate.specs.Sum.{HasSum, NoSumInPlace}
use Rattle.tclstate.proofs.Frames.{found_in, unchanged_in_place, put_in_place}
use Rattle.tclstate.proofs.Sums.{IfNone_holds, IfNone_then, same_sum, same_missed, missed_absent}
use Rattle.hints.proofs.Places.{lookup_at, set_at}
use Rattle.tclstate.proofs.Reach.{changed_reached, read_reached, read_absent}
use Rattle.tclstate.proofs.frame.LocalFrame.add.Goals as goal

pub returns-clause-added : goal.returns-clause-added
returns-clause-added g c =
    let es = c.self.inside.variables.entries in
    let at = lookup_at c.args.name.now es c.in_ok-place.place c.get_index_mut.ensures.unique
    c.in_ok-place.ensures.stands in
    IfSome_then c.add.result c.add.ensures.added
    (λ sum h outer. subst (HasSum c.args.by sum)
    (sym (read_reached c.args.self.now c.args.globals.now c.args.name.now outer None _
    (found_in local_of es _ c.self.view_is c.args.name.now (Some _)
    (c.in-Some.ensures.value ∙ at)))) (same_sum c.args.by sum _ c.ranges.by h))

pub returns-clause-written : goal.returns-clause-written
returns-clause-written g c =
    let es = c.self.inside.variables.entries in
    let at = lookup_at c.args.name.now es c.in_ok-place.place c.get_index_mut.ensures.unique
    c.in_ok-place.ensures.stands in
    let is = set_at c.args.name.now es c.in_ok-place.place c.add.new.self
    c.get_index_mut.ensures.unique c.in_ok-place.ensures.stands in
    IfSome_then c.add.result c.add.ensures.written
    (λ sum e outer. changed_reached (λ v. changed v None sum)
    (frame_written c.args.name.now None sum)
    c.args.self.now c.args.globals.now c.args.name.now outer refl _ _ _ _
    (found_in local_of es _ c.self.view_is c.args.name.now (Some _)
    (c.in-Some.ensures.value ∙ at))
    e
    (put_in_place local_of es _ c.self.view_is c.args.name.now _ _
    c.add.new.self (c.in-Some.ensures.value ∙ at) is))

pub returns-clause-unchanged : goal.returns-clause-unchanged
returns-clause-unchanged g c =
    let es = c.self.inside.variables.entries in
    let at = lookup_at c.args.name.now es c.in_ok-place.place c.get_index_mut.ensures.unique
    c.in_ok-place.ensures.stands in
    let is = set_at c.args.name.now es c.in_ok-place.place c.add.new.self
    c.get_index_mut.ensures.unique c.in_ok-place.ensures.stands in
    IfNone_then c.add.result c.add.ensures.unchanged
    (unchanged_in_place local_of es _ c.self.view_is c.args.name.now
    _ _ c.add.new.self (c.in-Some.ensures.value ∙ at) is)

pub returns-clause-missed : goal.returns-clause-missed
returns-clause-missed g c =
    let es = c.self.inside.variables.entries in
    let at = lookup_at c.args.name.now es c.in_ok-place.place c.get_index_mut.ensures.unique
    c.in_ok-place.ensures.stands in
    IfNone_then c.add.result c.add.ensures.missed
    (λ h outer. subst (NoSumInPlace c.args.by)
    (sym (read_reached c.args.self.now c.args.globals.now c.args.name.now outer None _
    (found_in local_of es _ c.self.view_is c.args.name.now (Some _)
    (c.in-Some.ensures.value ∙ at)))) (same_missed c.args.by _ c.ranges.by h))

pub returns-in_err-place-clause-missed : goal.returns-in_err-place-clause-missed
returns-in_err-place-clause-missed g c =
    let missed : (outer : List Frame) → NoSumInPlace c.args.by
    (read (scopes (c.args.self.now ∷ outer) c.args.globals.now) c.args.name.now None) =
    λ outer. missed_absent c.args.by NoVariable _
    (read_absent c.args.self.now c.args.globals.now c.args.name.now outer None
    (found_in local_of c.self.inside.variables.entries _ c.self.view_is c.args.name.now None
    (sym c.in_err-place.ensures.absent))) in
    IfNone_holds c.from_residual.result missed
