use Rattle.std.proofs.Common.{◌++◌, refl, sym, ap, ◌∙◌}
use Rattle.records.specs.Entry.{second_header}
use Rattle.records.proofs.Notes.{no_bad_entry, one_bad_entry, one_entries, same_note_text, some_notes}
use Rattle.records.proofs.entries.one_list_of_entries.Goals as goal

pub returns-clause-some_text : goal.returns-clause-some_text
returns-clause-some_text c = λ notes all. let (lines, are) = some_notes notes all in
    (second_header ++ lines, (lines, refl, are))

pub returns-clause-one_text : goal.returns-clause-one_text
returns-clause-one_text c = λ notes a b (lines, whole, are) (lines', whole', are').
    whole ∙ ap (λ rest. second_header ++ rest) (same_note_text notes lines lines' are are')
    ∙ sym whole'

pub returns-clause-one_list : goal.returns-clause-one_list
returns-clause-one_list c = one_entries

pub returns-clause-no_bad_line : goal.returns-clause-no_bad_line
returns-clause-no_bad_line c = no_bad_entry

pub returns-clause-one_bad_line : goal.returns-clause-one_bad_line
returns-clause-one_bad_line c = one_bad_entry
