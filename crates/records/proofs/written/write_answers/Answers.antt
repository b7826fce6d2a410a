use Rattle.std.proofs.Common.{◌++◌, [], map, refl, sym, subst, append-nil, arith}
use Rattle.std.proofs.Math.ListN.{drop_of_length-le}
use Rattle.acts.specs.Deed.{reply_of}
use Rattle.records.specs.Sink.{Takes}
use Rattle.records.proofs.Spelled.{answers_on, item_at}
use Rattle.records.proofs.written.write_answers.Goals as goal

pub loop-answer-preserved : goal.loop-answer-preserved
loop-answer-preserved g c =
    let answers = c.args.answers.now in
    let i = c.loop-answer.answer-index in
    let x = c.answer-item.result in
    answers_on g.S.Sink.adds g.S.Sink.has_failed answers i x c.args.sink.now c.loop-answer.sink
    c.write_line.new.sink (item_at answers i x c.loop-answer-test.true c.answer-item.is) reply_of
    (map reply_of answers) c.loop-answer.invariant c.write_line.ensures

pub returns : goal.returns
returns g c =
    let answers = c.args.answers.now in
    let i = c.loop-answer.answer-index in
    let (told, done, takes, so_far) = c.loop-answer.invariant in
    let empty = drop_of_length-le answers {i = i} (omega (arith, c.loop-answer-test.false)) in (
      done ++ [],
      so_far [] (rw empty refl),
      subst (λ text. Takes g.S.Sink.adds g.S.Sink.has_failed c.args.sink.now text
          c.loop-answer.sink) (sym (append-nil done)) takes,
    )
