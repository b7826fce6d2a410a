use Rattle.std.proofs.Common.{map}
use Rattle.std.proofs.lemmas.Result.{IfOk-weaker}
use Rattle.acts.specs.Deed.{reply_of}
use Rattle.records.proofs.Faults.{bad_line_found, header_split, record_read}
use Rattle.records.proofs.Told.{lines_told}
use Rattle.records.proofs.record.read_record.Goals as goal

pub returns-in-Some-clause-read : goal.returns-in-Some-clause-read
returns-in-Some-clause-read g c =
    let (test, is, room) = c.in-Some.ensures.cases in
    IfOk-weaker c.read_lines.result _ _ (λ answers are.
    (c.in-Some.lines.now, header_split c.args.text.now c.in-Some.lines.now test is, are))
    c.read_lines.ensures.read

pub returns-in-Some-clause-told : goal.returns-in-Some-clause-told
returns-in-Some-clause-told g c =
    IfOk-weaker c.read_lines.result _ _
    (λ answers are. lines_told (map reply_of answers.items) c.in-Some.lines.now are)
    c.read_lines.ensures.read

pub returns-in-Some-clause-record : goal.returns-in-Some-clause-record
returns-in-Some-clause-record g c = λ replies are.
    let (test, is, room) = c.in-Some.ensures.cases in
    record_read (λ answers. map reply_of answers.items) c.args.text.now c.in-Some.lines.now
    c.read_lines.result
    (header_split c.args.text.now c.in-Some.lines.now test is) c.read_lines.ensures.read
    c.read_lines.ensures.fault replies are

pub returns-in-Some-clause-no_header : goal.returns-in-Some-clause-no_header
returns-in-Some-clause-no_header g c = λ lacks.
    let (test, is, room) = c.in-Some.ensures.cases in
    absurd (lacks (c.in-Some.lines.now, header_split c.args.text.now c.in-Some.lines.now test is))

pub returns-in-Some-clause-bad_line : goal.returns-in-Some-clause-bad_line
returns-in-Some-clause-bad_line g c = λ n bad.
    let (test, is, room) = c.in-Some.ensures.cases in
    bad_line_found (λ answers. map reply_of answers.items) c.args.text.now c.in-Some.lines.now
    c.read_lines.result
    (header_split c.args.text.now c.in-Some.lines.now test is) c.read_lines.ensures.read
    c.read_lines.ensures.fault n bad
