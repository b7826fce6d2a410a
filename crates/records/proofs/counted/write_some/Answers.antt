use Rattle.std.proofs.Common.{◌+◌, ◌∷◌, ◌++◌, [], ◌∙◌, sym, ap}
use Rattle.std.proofs.lemmas.List.{length_push}
use Rattle.records.proofs.Tries.{AreInterrupted-more, Keeps-then}
use Rattle.records.proofs.counted.write_some.Goals as goal

pub loop-tries-preserved : goal.loop-tries-preserved
loop-tries-preserved g c =
    let (keeps, (errors, count, chain)) = c.loop-tries.invariant in
    let is = sym c.kind.ensures ∙ c.in-Interrupted.is in
    let more = AreInterrupted-more g.W.Writer.writes errors c.in-Err.error c.args.writer.now
    c.loop-tries.writer c.write_once.new.self c.args.text.now
    chain c.in-Err.ensures.writes is in (
      Keeps-then _ _ _ keeps c.in-Err.ensures.held,
      (
        errors ++ c.in-Err.error ∷ [],
        length_push errors c.in-Err.error ∙ ap (λ n. n + 1) count,
        more,
      ),
    )
