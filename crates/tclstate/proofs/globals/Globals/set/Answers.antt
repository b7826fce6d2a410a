use Rattle.std.proofs.Common.{None, sym, ◌∙◌, option_copied}
use Rattle.std.proofs.lemmas.Result.{on_ok_weaker, on_err_weaker, IfErr-weaker}
use Rattle.tclstate.specs.Scopes.{changed}
use Rattle.tclstate.specs.Stored.{variable_of}
use Rattle.tclstate.proofs.Frames.{found_in, changed_in_place, refusal_in_place, unchanged_in_place}
use Rattle.hints.proofs.Places.{lookup_at, set_at}
use Rattle.tclstate.proofs.globals.Globals.set.Goals as goal

pub returns-in-Some-get_index_mut-clause-ok : goal.returns-in-Some-get_index_mut-clause-ok
returns-in-Some-get_index_mut-clause-ok g c =
    let es = c.self.inside.variables.entries in
    let at = lookup_at c.args.name.now es c.in-Some.place c.get_index_mut.ensures.unique
    c.in-Some.ensures.stands in
    let is = set_at c.args.name.now es c.in-Some.place c.set.new.self
    c.get_index_mut.ensures.unique c.in-Some.ensures.stands in
    on_ok_weaker c.set.result
    (changed_in_place variable_of es _ c.self.view_is c.args.name.now
    (λ v. changed v (option_copied c.args.index) c.args.value)
    _ _ c.set.new.self (c.in-Some-get_index_mut.ensures.value ∙ at) is)
    c.set.ensures.ok

pub returns-in-Some-get_index_mut-clause-trouble :
    goal.returns-in-Some-get_index_mut-clause-trouble
returns-in-Some-get_index_mut-clause-trouble g c =
    let es = c.self.inside.variables.entries in
    let at = lookup_at c.args.name.now es c.in-Some.place c.get_index_mut.ensures.unique
    c.in-Some.ensures.stands in
    IfErr-weaker c.set.result _ _
    (refusal_in_place variable_of es _ c.self.view_is c.args.name.now
    (λ v. changed v (option_copied c.args.index) c.args.value)
    _ (c.in-Some-get_index_mut.ensures.value ∙ at))
    c.set.ensures.trouble

pub returns-in-Some-get_index_mut-clause-unchanged :
    goal.returns-in-Some-get_index_mut-clause-unchanged
returns-in-Some-get_index_mut-clause-unchanged g c =
    let es = c.self.inside.variables.entries in
    let at = lookup_at c.args.name.now es c.in-Some.place c.get_index_mut.ensures.unique
    c.in-Some.ensures.stands in
    let is = set_at c.args.name.now es c.in-Some.place c.set.new.self
    c.get_index_mut.ensures.unique c.in-Some.ensures.stands in
    on_err_weaker c.set.result
    (unchanged_in_place variable_of es _ c.self.view_is c.args.name.now
    _ _ c.set.new.self (c.in-Some-get_index_mut.ensures.value ∙ at) is)
    c.set.ensures.unchanged

pub returns-in-None-clause-ok : goal.returns-in-None-clause-ok
returns-in-None-clause-ok g c =
    c.set_new.ensures.ok (found_in variable_of c.self.inside.variables.entries _ c.self.view_is
    c.args.name.now None (sym c.in-None.ensures.absent))

pub returns-in-None-clause-trouble : goal.returns-in-None-clause-trouble
returns-in-None-clause-trouble g c =
    c.set_new.ensures.trouble (found_in variable_of c.self.inside.variables.entries _ c.self.view_is
    c.args.name.now None (sym c.in-None.ensures.absent))
