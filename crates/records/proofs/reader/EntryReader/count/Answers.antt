use Rattle.std.proofs.Common.{◌≡◌, true, IfErr, sym, subst}
use Rattle.std.proofs.lemmas.Result.{err_from_is_err_and}
use Rattle.records.specs.Entry.{second_header}
use Rattle.records.specs.Reading.{GivesFault, ReadsOn, place_of}
use Rattle.records.proofs.Readings.{fault_given, record_given}
use Rattle.records.proofs.reader.EntryReader.count.Goals as goal

pub returns-in_err-count_entries-clause-fault : goal.returns-in_err-count_entries-clause-fault
returns-in_err-count_entries-clause-fault g c =
    let gives = g.S.Source.gives in
    let up = g.S.Source.gives_up in
    let most = g.S.Source.most in
    let before = c.args.self.now.source in
    let after = place_of c.count_entries.new.self in
    let second : c.in_ok-begin.field-0 ≡ true = search (c.if-not-branch.false) in
    let header = subst (λ held. ReadsOn gives most (before, held) second_header
    (place_of c.begin.new.self)) c.requires.fresh.0 (c.in_ok-begin.ensures.header second) in
    let (found, is, same) = err_from_is_err_and c.from_residual-in_err-count_entries.result
    c.from_residual-in_err-count_entries.ensures.1 in
    subst (λ result. IfErr result (GivesFault gives up before after.0)) (sym is)
    (subst (GivesFault gives up before after.0) (sym same)
    (fault_given gives most up before (place_of c.begin.new.self) after
    c.in_err-count_entries.field-0.0 header c.in_err-count_entries.ensures.fault))

pub returns-clause-gives : goal.returns-clause-gives
returns-clause-gives g c =
    let gives = g.S.Source.gives in
    let most = g.S.Source.most in
    let before = c.args.self.now.source in
    let second : c.in_ok-begin.field-0 ≡ true = search (c.if-not-branch.false) in
    let header = subst (λ held. ReadsOn gives most (before, held) second_header
    (place_of c.begin.new.self)) c.requires.fresh.0 (c.in_ok-begin.ensures.header second) in
    record_given gives most c.in_ok-count_entries.field-0 before (place_of c.begin.new.self)
    (place_of c.count_entries.new.self) header c.in_ok-count_entries.ensures.all
