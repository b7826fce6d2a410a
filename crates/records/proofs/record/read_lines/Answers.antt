use Rattle.std.proofs.Common.{◌++◌, ℕ, List, map, sym, ◌∙◌, ap, subst}
use Rattle.std.proofs.lemmas.List.{append-nil}
use Rattle.acts.specs.Deed.{reply_of}
use Rattle.records.specs.Record.{AreLines}
use Rattle.records.proofs.Records.{read_on}
use Rattle.records.proofs.Spelled.{none_left}
use Rattle.records.proofs.record.read_lines.Goals as goal

pub loop-rest-preserved : goal.loop-rest-preserved
loop-rest-preserved g c =
    let (good, whole, are, room) = c.loop-rest.invariant in
    read_on reply_of c.args.lines.now good c.loop-rest.rest.now c.in-Some.after.now
    c.loop-rest.answers.items c.push.new.self.items
    c.in-Some.answer whole are room (rw c.in-Some.is at c.in_ok-answer.ensures)
    c.in_ok-push.ensures.items

pub returns-clause-read : goal.returns-clause-read
returns-clause-read g c =
    let (good, whole, are, room) = c.loop-rest.invariant in
    let none = none_left c.loop-rest.rest.now (sym c.is_empty.ensures ∙ c.loop-rest-test.false) in
    subst (AreLines (map reply_of c.loop-rest.answers.items))
    (sym (whole ∙ ap (λ (rest : List ℕ). good ++ rest) none ∙ append-nil good)) are
