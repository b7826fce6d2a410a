use Rattle.std.proofs.Common.{◌++◌, refl, sym, ap, ◌∙◌}
use Rattle.records.specs.Record.{header}
use Rattle.records.proofs.Records.{no_bad_line, one_bad_line, one_list, same_text, some_lines}
use Rattle.records.proofs.record.one_record.Goals as goal

pub returns-clause-some_text : goal.returns-clause-some_text
returns-clause-some_text c = λ replies all. let (lines, are) = some_lines replies all in
    (header ++ lines, (lines, refl, are))

pub returns-clause-one_text : goal.returns-clause-one_text
returns-clause-one_text c = λ replies a b (lines, whole, are) (lines', whole', are').
    whole ∙ ap (λ rest. header ++ rest) (same_text replies lines lines' are are') ∙ sym whole'

pub returns-clause-one_list : goal.returns-clause-one_list
returns-clause-one_list c = one_list

pub returns-clause-no_bad_line : goal.returns-clause-no_bad_line
returns-clause-no_bad_line c = no_bad_line

pub returns-clause-one_bad_line : goal.returns-clause-one_bad_line
returns-clause-one_bad_line c = one_bad_line
