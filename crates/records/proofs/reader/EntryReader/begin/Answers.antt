use Rattle.std.proofs.Common.{drop, sym, ap, ◌∙◌, subst}
use Rattle.lines.proofs.Cuts.{prefix_split}
use Rattle.records.specs.Entry.{second_header}
use Rattle.records.specs.Reading.{ReadsOn, place_of, unused}
use Rattle.records.proofs.Readings.{ReadsOn-use}
use Rattle.records.proofs.reader.EntryReader.begin.Goals as goal

pub returns-clause-header : goal.returns-clause-header
returns-clause-header g c = λ yes.
    let gives = g.S.Source.gives in
    let most = g.S.Source.most in
    let mid = c.read_ahead.new.self in
    let (test, is, room) = c.in-Some.ensures.cases in
    let split = prefix_split c.text.result.now second_header c.in-Some._lines.now test is in
    subst (λ held. ReadsOn gives most (place_of c.args.self.now) second_header (mid.source, held))
    (sym (c.use_up.ensures ∙ ap (drop 12) (sym c.text.ensures) ∙ sym is))
    (ReadsOn-use gives most (place_of c.args.self.now) mid.source (unused mid.ahead)
    second_header c.in-Some._lines.now c.in_ok-read_ahead.ensures.reads
    (sym c.text.ensures ∙ split))
