use Rattle.std.proofs.Common.{inl, inr}
use Rattle.std.proofs.lemmas.Result.{IfErr-weaker, IfOk-weaker}
use Rattle.lines.proofs.Cuts.{no_prefix, prefix_split}
use Rattle.records.specs.Entry.{second_header}
use Rattle.records.proofs.Notes.{entries_fault, first_fault}
use Rattle.records.proofs.entries.read_either.Goals as goal

pub returns-in-Some-clause-read : goal.returns-in-Some-clause-read
returns-in-Some-clause-read g c =
    let (test, is, room) = c.in-Some.ensures.cases in
    IfOk-weaker c.read_notes.result _ _ (λ entries are. inr (
      c.in-Some.lines.now,
      prefix_split c.args.text.now second_header c.in-Some.lines.now test is,
      are,
    ))
    c.read_notes.ensures.read

pub returns-in-Some-clause-fault : goal.returns-in-Some-clause-fault
returns-in-Some-clause-fault g c =
    let (test, is, room) = c.in-Some.ensures.cases in
    IfErr-weaker c.read_notes.result _ _ (λ fault bad. entries_fault c.args.text.now
    c.in-Some.lines.now fault
    (prefix_split c.args.text.now second_header c.in-Some.lines.now test is) bad)
    c.read_notes.ensures.fault

pub returns-in-Some-clause-no_header : goal.returns-in-Some-clause-no_header
returns-in-Some-clause-no_header g c = λ first second.
    let (test, is, room) = c.in-Some.ensures.cases in
    absurd (second (
      c.in-Some.lines.now,
      prefix_split c.args.text.now second_header
          c.in-Some.lines.now test is,
    ))

pub returns-in-None-clause-read : goal.returns-in-None-clause-read
returns-in-None-clause-read g c =
    IfOk-weaker c.read_plain.result _ _ (λ entries is. inl is) c.read_plain.ensures.read

pub returns-in-None-clause-fault : goal.returns-in-None-clause-fault
returns-in-None-clause-fault g c =
    IfErr-weaker c.read_plain.result _ _ (λ fault is. first_fault c.args.text.now fault
    (λ (lines, whole). no_prefix c.args.text.now second_header lines c.in-None.ensures.cases whole)
    is) c.read_plain.ensures.fault
