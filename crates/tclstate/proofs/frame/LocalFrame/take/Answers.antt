use Rattle.std.proofs.Common.{[], Some, None, refl, option_copied, sym, ◌∙◌}
use Rattle.std.proofs.lemmas.Result.{on_ok_weaker, on_err_weaker, IfOk-weaker, IfErr-weaker}
use Rattle.tclstate.specs.Scopes.{changed, frame_written}
use Rattle.tclstate.specs.Stored.{local_of}
use Rattle.tclstate.proofs.Frames.{found_in, unchanged_in_place, put_in_place}
use Rattle.hints.proofs.Places.{lookup_at, set_at}
use Rattle.tclstate.proofs.Reach.{changed_reached, read_reached, read_absent}
use Rattle.tclstate.proofs.frame.LocalFrame.take.Goals as goal

pub returns-in_default-clause-trouble : goal.returns-in_default-clause-trouble
returns-in_default-clause-trouble g c =
    λ outer. read_absent c.args.self.now c.args.globals.now c.args.name.now outer
    (option_copied c.args.index)
    (found_in local_of c.self.inside.variables.entries _ c.self.view_is c.args.name.now None
    (sym c.in_default.ensures.absent))

pub returns-clause-value : goal.returns-clause-value
returns-clause-value g c =
    let es = c.self.inside.variables.entries in
    let at = lookup_at c.args.name.now es c.in-Some.place c.get_index_mut.ensures.unique
    c.in-Some.ensures.stands in
    IfOk-weaker c.take.result _ _
    (λ value is outer. read_reached c.args.self.now c.args.globals.now c.args.name.now outer
    (option_copied c.args.index) _
    (found_in local_of es _ c.self.view_is c.args.name.now (Some _)
    (c.in-Some-get_index_mut.ensures.value ∙ at)) ∙ is)
    c.take.ensures.value

pub returns-clause-emptied : goal.returns-clause-emptied
returns-clause-emptied g c =
    let es = c.self.inside.variables.entries in
    let at = lookup_at c.args.name.now es c.in-Some.place c.get_index_mut.ensures.unique
    c.in-Some.ensures.stands in
    let is = set_at c.args.name.now es c.in-Some.place c.take.new.self
    c.get_index_mut.ensures.unique c.in-Some.ensures.stands in
    on_ok_weaker c.take.result
    (λ e outer. changed_reached (λ v. changed v (option_copied c.args.index) [])
    (frame_written c.args.name.now (option_copied c.args.index) [])
    c.args.self.now c.args.globals.now c.args.name.now outer refl _ _ _ _
    (found_in local_of es _ c.self.view_is c.args.name.now (Some _)
    (c.in-Some-get_index_mut.ensures.value ∙ at))
    e
    (put_in_place local_of es _ c.self.view_is c.args.name.now _ _
    c.take.new.self (c.in-Some-get_index_mut.ensures.value ∙ at) is))
    c.take.ensures.emptied

pub returns-clause-trouble : goal.returns-clause-trouble
returns-clause-trouble g c =
    let es = c.self.inside.variables.entries in
    let at = lookup_at c.args.name.now es c.in-Some.place c.get_index_mut.ensures.unique
    c.in-Some.ensures.stands in
    IfErr-weaker c.take.result _ _
    (λ e h outer. rw (read_reached c.args.self.now c.args.globals.now c.args.name.now outer
    (option_copied c.args.index) _
    (found_in local_of es _ c.self.view_is c.args.name.now (Some _)
    (c.in-Some-get_index_mut.ensures.value ∙ at))) h)
    c.take.ensures.trouble

pub returns-clause-unchanged : goal.returns-clause-unchanged
returns-clause-unchanged g c =
    let es = c.self.inside.variables.entries in
    let at = lookup_at c.args.name.now es c.in-Some.place c.get_index_mut.ensures.unique
    c.in-Some.ensures.stands in
    let is = set_at c.args.name.now es c.in-Some.place c.take.new.self
    c.get_index_mut.ensures.unique c.in-Some.ensures.stands in
    on_err_weaker c.take.result
    (unchanged_in_place local_of es _ c.self.view_is c.args.name.now
    _ _ c.take.new.self (c.in-Some-get_index_mut.ensures.value ∙ at) is)
    c.take.ensures.unchanged
