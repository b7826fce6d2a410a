use Rattle.std.proofs.Common.{Some, None, sym, ap, subst, ◌∙◌}
use Rattle.std.proofs.lemmas.Option.{IfSome_then}
use Rattle.tclstate.specs.Scopes.{NoVariable, changed, value_of}
use Rattle.tclstate.specs.Stored.{variable_of}
use Rattle.tclstate.specs.Sum.{HasSum, NoSumInPlace}
use Rattle.tclstate.proofs.Frames.{found_in, changed_in_place, unchanged_in_place}
use Rattle.tclstate.proofs.Sums.{IfNone_holds, IfNone_then, same_sum, same_missed, missed_absent}
use Rattle.hints.proofs.Places.{lookup_at, set_at}
use Rattle.tclstate.proofs.globals.Globals.add.Goals as goal

pub returns-clause-added : goal.returns-clause-added
returns-clause-added g c =
    let es = c.self.inside.variables.entries in
    let at = lookup_at c.args.name.now es c.in_ok-place.place c.get_index_mut.ensures.unique
    c.in_ok-place.ensures.stands in
    IfSome_then c.add.result c.add.ensures.added
    (λ sum h. subst (λ v. HasSum c.args.by sum (value_of v None))
    (sym (found_in variable_of es _ c.self.view_is c.args.name.now (Some _)
    (c.in-Some.ensures.value ∙ at)))
    (same_sum c.args.by sum _ c.ranges.by h))

pub returns-clause-written : goal.returns-clause-written
returns-clause-written g c =
    let es = c.self.inside.variables.entries in
    let at = lookup_at c.args.name.now es c.in_ok-place.place c.get_index_mut.ensures.unique
    c.in_ok-place.ensures.stands in
    let is = set_at c.args.name.now es c.in_ok-place.place c.add.new.self
    c.get_index_mut.ensures.unique c.in_ok-place.ensures.stands in
    IfSome_then c.add.result c.add.ensures.written
    (λ sum. changed_in_place variable_of es _ c.self.view_is c.args.name.now
    (λ v. changed v None sum)
    _ _ c.add.new.self (c.in-Some.ensures.value ∙ at) is)

pub returns-clause-unchanged : goal.returns-clause-unchanged
returns-clause-unchanged g c =
    let es = c.self.inside.variables.entries in
    let at = lookup_at c.args.name.now es c.in_ok-place.place c.get_index_mut.ensures.unique
    c.in_ok-place.ensures.stands in
    let is = set_at c.args.name.now es c.in_ok-place.place c.add.new.self
    c.get_index_mut.ensures.unique c.in_ok-place.ensures.stands in
    IfNone_then c.add.result c.add.ensures.unchanged
    (unchanged_in_place variable_of es _ c.self.view_is c.args.name.now
    _ _ c.add.new.self (c.in-Some.ensures.value ∙ at) is)

pub returns-clause-missed : goal.returns-clause-missed
returns-clause-missed g c =
    let es = c.self.inside.variables.entries in
    let at = lookup_at c.args.name.now es c.in_ok-place.place c.get_index_mut.ensures.unique
    c.in_ok-place.ensures.stands in
    IfNone_then c.add.result c.add.ensures.missed
    (λ h. subst (λ v. NoSumInPlace c.args.by (value_of v None))
    (sym (found_in variable_of es _ c.self.view_is c.args.name.now (Some _)
    (c.in-Some.ensures.value ∙ at)))
    (same_missed c.args.by _ c.ranges.by h))

pub returns-in_err-place-clause-missed : goal.returns-in_err-place-clause-missed
returns-in_err-place-clause-missed g c =
    IfNone_holds c.from_residual.result (missed_absent c.args.by NoVariable _
    (ap (λ v. value_of v None)
    (found_in variable_of c.self.inside.variables.entries _ c.self.view_is c.args.name.now None
    (sym c.in_err-place.ensures.absent))))
