use Rattle.std.proofs.Common.{[], Some, None, Ok, IfOk, IfErr, ◌≡◌, option_copied, sym, ap, subst, ◌∙◌}
use Rattle.std.proofs.lemmas.Result.{on_ok_weaker, on_err_weaker}
use Rattle.tclstate.specs.Scopes.{changed, value_of}
use Rattle.tclstate.specs.ScopeError.{HasTrouble}
use Rattle.tclstate.specs.Stored.{variable_of}
use Rattle.tclstate.proofs.Frames.{found_in, changed_in_place, unchanged_in_place}
use Rattle.hints.proofs.Places.{lookup_at, set_at}
use Rattle.tclstate.proofs.globals.Globals.take.Goals as goal

pub returns-in_default-clause-trouble : goal.returns-in_default-clause-trouble
returns-in_default-clause-trouble g c =
    ap (λ v. value_of v (option_copied c.args.index))
    (found_in variable_of c.self.inside.variables.entries _ c.self.view_is c.args.name.now None
    (sym c.in_default.ensures.absent))

pub returns-clause-value : goal.returns-clause-value
returns-clause-value g c =
    let es = c.self.inside.variables.entries in
    let at = lookup_at c.args.name.now es c.in-Some.place c.get_index_mut.ensures.unique
    c.in-Some.ensures.stands in
    subst (λ v. IfOk c.take.result
    (λ value. value_of v (option_copied c.args.index) ≡ Ok value))
    (sym (found_in variable_of es _ c.self.view_is c.args.name.now (Some _)
    (c.in-Some-get_index_mut.ensures.value ∙ at)))
    c.take.ensures.value

pub returns-clause-emptied : goal.returns-clause-emptied
returns-clause-emptied g c =
    let es = c.self.inside.variables.entries in
    let at = lookup_at c.args.name.now es c.in-Some.place c.get_index_mut.ensures.unique
    c.in-Some.ensures.stands in
    let is = set_at c.args.name.now es c.in-Some.place c.take.new.self
    c.get_index_mut.ensures.unique c.in-Some.ensures.stands in
    on_ok_weaker c.take.result
    (changed_in_place variable_of es _ c.self.view_is c.args.name.now
    (λ v. changed v (option_copied c.args.index) [])
    _ _ c.take.new.self (c.in-Some-get_index_mut.ensures.value ∙ at) is)
    c.take.ensures.emptied

pub returns-clause-trouble : goal.returns-clause-trouble
returns-clause-trouble g c =
    let es = c.self.inside.variables.entries in
    let at = lookup_at c.args.name.now es c.in-Some.place c.get_index_mut.ensures.unique
    c.in-Some.ensures.stands in
    subst (λ v. IfErr c.take.result
    (λ e. HasTrouble e (value_of v (option_copied c.args.index))))
    (sym (found_in variable_of es _ c.self.view_is c.args.name.now (Some _)
    (c.in-Some-get_index_mut.ensures.value ∙ at)))
    c.take.ensures.trouble

pub returns-clause-unchanged : goal.returns-clause-unchanged
returns-clause-unchanged g c =
    let es = c.self.inside.variables.entries in
    let at = lookup_at c.args.name.now es c.in-Some.place c.get_index_mut.ensures.unique
    c.in-Some.ensures.stands in
    let is = set_at c.args.name.now es c.in-Some.place c.take.new.self
    c.get_index_mut.ensures.unique c.in-Some.ensures.stands in
    on_err_weaker c.take.result
    (unchanged_in_place variable_of es _ c.self.view_is c.args.name.now
    _ _ c.take.new.self (c.in-Some-get_index_mut.ensures.value ∙ at) is)
    c.take.ensures.unchanged
