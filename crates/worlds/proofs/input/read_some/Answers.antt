use Rattle.std.proofs.Common.{◌+◌, ◌++◌, ◌∷◌, [], Ok, Err, refl, ap, ◌∙◌, arith}
use Rattle.std.proofs.KnownBytes.{Keeps-trans}
use Rattle.std.proofs.lemmas.List.{length_push}
use Rattle.worlds.proofs.ReadChains.{Follows-more, GivesUp-failed}
use Rattle.worlds.proofs.input.read_some.Goals as goal

pub returns-in-Ok-clause-reads : goal.returns-in-Ok-clause-reads
returns-in-Ok-clause-reads g c =
    let (keeps, long, (answers, count, chain)) = c.tries.invariant in
    let more = length_push answers (Ok c.in-Ok.taken) in (
      answers ++ Ok c.in-Ok.taken ∷ [],
      omega (arith, more),
      Follows-more g.R.Reader.reads c.args.reader.now c.tries.reader c.read_once.new.self answers
          (Ok c.in-Ok.taken) chain c.in-Ok.ensures.reads,
    )

pub returns-in_default-clause-refused : goal.returns-in_default-clause-refused
returns-in_default-clause-refused g c =
    let (keeps, long, (answers, count, chain)) = c.tries.invariant in (
      refl,
      GivesUp-failed g.R.Reader.reads c.args.reader.now c.tries.reader c.read_once.new.self answers
          c.in-Err.error chain c.in-Err.ensures.reads
          (λ is. c.in_default.not-Interrupted (c.kind.ensures ∙ is)),
    )

pub tries-preserved : goal.tries-preserved
tries-preserved g c =
    let (keeps, long, (answers, count, chain)) = c.tries.invariant in (
      Keeps-trans _ _ _ keeps c.in-Err.ensures.left,
      c.in-Err.ensures.len ∙ long,
      (
        answers ++ Err c.in-Err.error ∷ [],
        length_push answers (Err c.in-Err.error) ∙ ap (λ n. n + 1) count,
        Follows-more g.R.Reader.reads c.args.reader.now c.tries.reader c.read_once.new.self answers
            (Err c.in-Err.error) chain c.in-Err.ensures.reads,
      ),
    )
