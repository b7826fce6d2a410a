use Rattle.std.proofs.Common.{◌++◌, ◌∙◌, [], ◌∷◌, take, refl, sym, ap, inl, inr, arith, length-append}
use Rattle.std.specs.IoError.{error_kind}
use Rattle.live.specs.Calls.{Gave, Failed}
use Rattle.live.specs.Look.{IsNothing}
use Rattle.live.proofs.Looking.{next_read, all_and_one, one_more}
use Rattle.live.proofs.link.read_once.Goals as goal

pub returns-in-Ok-eq0-clause-looks : goal.returns-in-Ok-eq0-clause-looks
returns-in-Ok-eq0-clause-looks g c =
    let (gots, many, nothing, made, same) = c.tries.invariant in
    let last = Gave (take c.in-Ok-eq0.field-0 c.read.new.room) in (
      gots ++ last ∷ [],
      next_read g.S.System.step _ _ _ _ _ gots last made same c.in-Ok-eq0.ensures.step,
      (gots, last, nothing, ap (λ n. take n c.read.new.room) c.in-Ok-eq0.field-0-test, refl),
    )

pub returns-in-Ok-clause-looks : goal.returns-in-Ok-clause-looks
returns-in-Ok-clause-looks g c =
    let (gots, many, nothing, made, same) = c.tries.invariant in
    let last = Gave (take c.in-Ok.count c.read.new.room) in (
      gots ++ last ∷ [],
      next_read g.S.System.step _ _ _ _ _ gots last made same c.in-Ok.ensures.step,
      (gots, nothing, refl),
    )

pub returns-in-WouldBlock-clause-looks : goal.returns-in-WouldBlock-clause-looks
returns-in-WouldBlock-clause-looks g c =
    let (gots, many, nothing, made, same) = c.tries.invariant in
    let last = Failed (error_kind c.in-Err.error) in (
      gots ++ last ∷ [],
      next_read g.S.System.step _ _ _ _ _ gots last made same c.in-Err.ensures.step,
      (
        all_and_one IsNothing gots last nothing (inr (sym c.kind.ensures ∙ c.in-WouldBlock.is)),
        λ room. one_more gots last,
      ),
    )

pub returns-in_default-clause-looks : goal.returns-in_default-clause-looks
returns-in_default-clause-looks g c =
    let (gots, many, nothing, made, same) = c.tries.invariant in
    let last = Failed (error_kind c.in-Err.error) in (
      gots ++ last ∷ [],
      next_read g.S.System.step _ _ _ _ _ gots last made same c.in-Err.ensures.step,
      (
        gots,
        last,
        nothing,
        (
          λ e. c.in_default.not-Interrupted (c.kind.ensures ∙ e),
          λ e. c.in_default.not-WouldBlock (c.kind.ensures ∙ e),
        ),
        refl,
      ),
    )

pub tries-preserved : goal.tries-preserved
tries-preserved g c =
    let (gots, many, nothing, made, same) = c.tries.invariant in
    let last = Failed (error_kind c.in-Err.error) in
    let long = length-append gots (last ∷ []) in (
      gots ++ last ∷ [],
      omega arith,
      all_and_one IsNothing gots last nothing (inl (sym c.kind.ensures ∙ c.in-Interrupted.is)),
      next_read g.S.System.step _ _ _ _ _ gots last made same c.in-Err.ensures.step,
      c.read.ensures.owner ∙ same,
    )
