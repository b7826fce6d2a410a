use Rattle.std.proofs.Common.{Ok, subst, sym}
use Rattle.choices.specs.Branches.{Branches}
use Rattle.readings.specs.Misreads.{flaw_of}
use Rattle.readings.specs.Reads.{IsRead, place}
use Rattle.expects.proofs.Answering.{misread_reaches, words_reach}
use Rattle.expects.proofs.Comings.{after_ok, comes_reading}
use Rattle.expects.specs.View.{course_of_opening, form_of}
use Rattle.expects.proofs.expect.by_words.Goals as goal

pub returns-in-Ok-clause-comes : goal.returns-in-Ok-clause-comes
returns-in-Ok-clause-comes g c = λ s fits.
    let form = form_of c.args.form in
    let said = c.deref.result.now in
    let lines = c.args.state.now.ids.table.lines in
    let at = place lines c.id_in_force-current.result c.stands.result in
    let is_read : IsRead at c.args.words.now (Ok said) =
    subst (λ (b : Branches). IsRead at c.args.words.now (Ok b)) (sym c.deref.ensures)
    c.in-Ok.ensures.branches in
    after_ok course_of_opening _ c.on_branches.result _ _
    (words_reach form c.args.levels s c.args.words.now lines c.id_in_force-current.result
    c.stands.result (Ok said) fits.ids.peers.lines (c.id_in_force-current.ensures s fits)
    c.stands.ensures is_read)
    (c.on_branches.ensures.comes s fits)

pub returns-in_ok-failed-in-Err-clause-comes : goal.returns-in_ok-failed-in-Err-clause-comes
returns-in_ok-failed-in-Err-clause-comes g c = λ s fits.
    let form = form_of c.args.form in
    comes_reading course_of_opening _ _ s _ fits
    (misread_reaches form c.args.levels s c.args.words.now c.args.state.now.ids.table.lines
    c.id_in_force-current.result c.stands.result (flaw_of c.in-Err.error)
    c.told.result c.in_ok-failed-in-Err.field-0 fits.ids.peers.lines
    (c.id_in_force-current.ensures s fits) c.stands.ensures (c.told.ensures s fits)
    c.in-Err.ensures.flaw c.in_ok-failed-in-Err.ensures)
