use Rattle.std.proofs.Common.{[], ◌++◌, refl, sym, ap, ◌∙◌, subst}
use Rattle.records.specs.Reading.{ReadsOn, unused}
use Rattle.records.proofs.Readings.{ReadsOn-piece}
use Rattle.records.proofs.reader.EntryReader.read_piece.Goals as goal

pub returns-clause-reads : goal.returns-clause-reads
returns-clause-reads g c =
    let gives = g.S.Source.gives in
    let most = g.S.Source.most in
    let before = c.args.self.now in
    let (piece, long, step, less, added) = rw c.in-Some.is at c.read_from.ensures in
    let more = added ∙ ap (λ held. held ++ piece) c.in_ok-make_room.ensures.kept in
    subst (λ held. ReadsOn gives most (before.source, unused before.ahead) []
    (c.read_from.new.source, held)) (sym more)
    (ReadsOn-piece gives most before.source c.read_from.new.source (unused before.ahead) piece
    c.in-Some.taken long step less)

pub returns-in_default-clause-broken : goal.returns-in_default-clause-broken
returns-in_default-clause-broken g c =
    ([], c.args.self.now.source, ([], refl, refl), rw c.in_default.is at c.read_from.ensures)
