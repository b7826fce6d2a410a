use Rattle.std.proofs.Common.{[], IfErr, sym, subst}
use Rattle.std.proofs.lemmas.Result.{err_from_is_err_and}
use Rattle.records.specs.Reading.{IsBroken, place_of}
use Rattle.records.proofs.Readings.{ReadsOn-then, broken_on}
use Rattle.records.proofs.reader.EntryReader.read_ahead.Goals as goal

pub loop-self-preserved : goal.loop-self-preserved
loop-self-preserved g c = (
  ReadsOn-then g.S.Source.gives g.S.Source.most (place_of c.args.self.now)
      (place_of c.loop-self.self) (place_of c.read_piece.new.self) [] [] c.loop-self.invariant.0
      c.in_ok-read_piece.ensures.reads,
  λ known. c.in_ok-read_piece.ensures.known,
)

pub returns-in_err-read_piece-clause-broken : goal.returns-in_err-read_piece-clause-broken
returns-in_err-read_piece-clause-broken g c =
    let gives = g.S.Source.gives in
    let up = g.S.Source.gives_up in
    let before = c.args.self.now.source in
    let after = c.read_piece.new.self.source in
    let (read, gets, whole, within) = c.loop-self.invariant.0 in
    let (found, is, same) = err_from_is_err_and c.from_residual.result c.from_residual.ensures.1 in
    subst (λ result. IfErr result (IsBroken gives up before after)) (sym is)
    (subst (IsBroken gives up before after) (sym same)
    (broken_on gives g.S.Source.most up before c.loop-self.self.source after read
    c.in_err-read_piece.field-0.0 gets c.in_err-read_piece.ensures.broken))
