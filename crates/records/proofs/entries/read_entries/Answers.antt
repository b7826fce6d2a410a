use Rattle.std.proofs.Common.{map}
use Rattle.std.proofs.lemmas.Result.{IfOk-weaker}
use Rattle.records.specs.Entry.{note_of}
use Rattle.records.proofs.Notes.{bad_entry_found, entries_read}
use Rattle.records.proofs.Told.{entries_told}
use Rattle.records.proofs.entries.read_entries.Goals as goal

pub returns-clause-told : goal.returns-clause-told
returns-clause-told g c =
    IfOk-weaker c.read_either.result _ _
    (λ entries are. entries_told (map note_of entries.items) c.args.text.now are)
    c.read_either.ensures.read

pub returns-clause-record : goal.returns-clause-record
returns-clause-record g c = λ notes are.
    entries_read (λ entries. map note_of entries.items) c.args.text.now c.read_either.result
    c.read_either.ensures.read c.read_either.ensures.fault notes are

pub returns-clause-bad_line : goal.returns-clause-bad_line
returns-clause-bad_line g c = λ n bad.
    bad_entry_found (λ entries. map note_of entries.items) c.args.text.now c.read_either.result
    c.read_either.ensures.read c.read_either.ensures.fault n bad
