use Rattle.std.proofs.Common.{Some, None, refl, sym, ◌∙◌, option_copied}
use Rattle.std.proofs.lemmas.Result.{on_ok_weaker, on_err_weaker, IfErr-weaker}
use Rattle.tclstate.specs.Scopes.{changed, frame_written}
use Rattle.tclstate.specs.Stored.{local_of}
use Rattle.tclstate.proofs.Frames.{found_in, unchanged_in_place, put_in_place}
use Rattle.hints.proofs.Places.{lookup_at, set_at}
use Rattle.tclstate.proofs.Reach.{changed_reached, refusal_reached}
use Rattle.tclstate.proofs.frame.LocalFrame.set.Goals as goal

pub returns-in-Some-get_index_mut-clause-ok : goal.returns-in-Some-get_index_mut-clause-ok
returns-in-Some-get_index_mut-clause-ok g c =
    let es = c.self.inside.variables.entries in
    let at = lookup_at c.args.name.now es c.in-Some.place c.get_index_mut.ensures.unique
    c.in-Some.ensures.stands in
    let is = set_at c.args.name.now es c.in-Some.place c.set.new.self
    c.get_index_mut.ensures.unique c.in-Some.ensures.stands in
    on_ok_weaker c.set.result
    (λ e outer. changed_reached (λ v. changed v (option_copied c.args.index) c.args.value)
    (frame_written c.args.name.now (option_copied c.args.index) c.args.value)
    c.args.self.now c.args.globals.now c.args.name.now outer refl _ _ _ _
    (found_in local_of es _ c.self.view_is c.args.name.now (Some _)
    (c.in-Some-get_index_mut.ensures.value ∙ at))
    e
    (put_in_place local_of es _ c.self.view_is c.args.name.now _ _
    c.set.new.self (c.in-Some-get_index_mut.ensures.value ∙ at) is))
    c.set.ensures.ok

pub returns-in-Some-get_index_mut-clause-trouble :
    goal.returns-in-Some-get_index_mut-clause-trouble
returns-in-Some-get_index_mut-clause-trouble g c =
    let es = c.self.inside.variables.entries in
    let at = lookup_at c.args.name.now es c.in-Some.place c.get_index_mut.ensures.unique
    c.in-Some.ensures.stands in
    IfErr-weaker c.set.result _ _
    (λ e h outer. refusal_reached (λ v. changed v (option_copied c.args.index) c.args.value)
    (frame_written c.args.name.now (option_copied c.args.index) c.args.value)
    c.args.self.now c.args.globals.now c.args.name.now outer refl _ e
    (found_in local_of es _ c.self.view_is c.args.name.now (Some _)
    (c.in-Some-get_index_mut.ensures.value ∙ at))
    h)
    c.set.ensures.trouble

pub returns-in-Some-get_index_mut-clause-unchanged :
    goal.returns-in-Some-get_index_mut-clause-unchanged
returns-in-Some-get_index_mut-clause-unchanged g c =
    let es = c.self.inside.variables.entries in
    let at = lookup_at c.args.name.now es c.in-Some.place c.get_index_mut.ensures.unique
    c.in-Some.ensures.stands in
    let is = set_at c.args.name.now es c.in-Some.place c.set.new.self
    c.get_index_mut.ensures.unique c.in-Some.ensures.stands in
    on_err_weaker c.set.result
    (unchanged_in_place local_of es _ c.self.view_is c.args.name.now
    _ _ c.set.new.self (c.in-Some-get_index_mut.ensures.value ∙ at) is)
    c.set.ensures.unchanged

pub returns-in-None-clause-ok : goal.returns-in-None-clause-ok
returns-in-None-clause-ok g c =
    on_ok_weaker c.set_new.result (λ e outer. e outer c.args.globals.now)
    (c.set_new.ensures.ok (found_in local_of c.self.inside.variables.entries _ c.self.view_is
    c.args.name.now None (sym c.in-None.ensures.absent)))

pub returns-in-None-clause-trouble : goal.returns-in-None-clause-trouble
returns-in-None-clause-trouble g c =
    IfErr-weaker c.set_new.result _ _ (λ e h outer. h outer c.args.globals.now)
    (c.set_new.ensures.trouble (found_in local_of c.self.inside.variables.entries _ c.self.view_is
    c.args.name.now None (sym c.in-None.ensures.absent)))
