use Rattle.std.proofs.Common.{◌+◌, [], map, IfErr, refl, sym, ap, subst, arith}
use Rattle.std.proofs.lemmas.Result.{err_from_is_err_and}
use Rattle.records.specs.Entry.{note_of}
use Rattle.records.specs.Fault.{IsNotesFault}
use Rattle.records.proofs.Notes.{notes_fault, notes_on}
use Rattle.records.proofs.entries.read_notes.Goals as goal

pub loop-rest-init : goal.loop-rest-init
loop-rest-init g c = rw c.new-entries.ensures.items ([], refl, refl, refl, omega arith)

pub returns-in_err-entry-clause-fault : goal.returns-in_err-entry-clause-fault
returns-in_err-entry-clause-fault g c =
    let (good, whole, are, number, room) = c.loop-rest.invariant in
    let (found, is, same) = err_from_is_err_and c.from_residual.result c.from_residual.ensures.1 in
    subst (λ result. IfErr result (IsNotesFault c.args.lines.now)) (sym is)
    (subst (IsNotesFault c.args.lines.now) (sym same)
    (notes_fault (map note_of c.loop-rest.entries.items) c.args.lines.now good
    c.loop-rest.rest.now c.loop-rest.line c.in_err-entry.field-0.0 whole are number
    c.in_err-entry.ensures))

pub loop-rest-preserved : goal.loop-rest-preserved
loop-rest-preserved g c =
    let (good, whole, are, number, room) = c.loop-rest.invariant in
    notes_on note_of c.args.lines.now good c.loop-rest.rest.now c.in_ok-entry.after.now
    c.loop-rest.entries.items c.push.new.self.items c.in_ok-entry.entry c.loop-rest.line _ whole are
    number room c.in_ok-entry.ensures c.in_ok-push.ensures.items
    (ap (λ n. c.loop-rest.line + n) c.count_lines-line.ensures)
