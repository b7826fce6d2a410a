-- Chains of reads.
use Rattle.std.proofs.Common.{◌≢◌, ℕ, List, [], ◌∷◌, ◌++◌, Result, Err, refl, sym, ap, ◌∙◌, subst, append_assoc, inl, inr, arith}
use Rattle.std.proofs.lemmas.List.{length-append}
use Rattle.std.specs.IoError.{error_kind}
use Rattle.std.specs.declared.io.Error.{Error}
use Rattle.std.specs.declared.io.ErrorKind.TheVariants.{Interrupted}
use Rattle.worlds.specs.Reads.{Follows, GivesUp}

module _ {R : Type 0} (reads : R → Result ℕ Error → R → Type 0) where
  -- some reads and then others
  pub Follows-append : (before mid after : R) (first second : List (Result ℕ Error)) →
      Follows reads before first mid → Follows reads mid second after →
      Follows reads before (first ++ second) after
  Follows-append before mid after [] second same others =
      subst (λ state. Follows reads state second after) (sym same) others
  Follows-append before mid after (answer ∷ first) second (next, step, rest) others =
      (next, step, Follows-append next mid after first second rest others)

  -- one more read
  pub Follows-more : (before mid after : R) (answers : List (Result ℕ Error))
      (answer : Result ℕ Error) → Follows reads before answers mid → reads mid answer after →
      Follows reads before (answers ++ answer ∷ []) after
  Follows-more before mid after answers answer chain step =
      Follows-append before mid after answers (answer ∷ []) chain (after, step, refl)

  -- a read that fails is the last one
  pub GivesUp-failed : (before mid after : R) (answers : List (Result ℕ Error)) (error : Error) →
      Follows reads before answers mid → reads mid (Err error) after →
      error_kind error ≢ Interrupted → GivesUp reads before after
  GivesUp-failed before mid after answers error chain step other = (
    answers ++ Err error ∷ [],
    Follows-more before mid after answers (Err error) chain step,
    inl (answers, error, refl, other),
  )

  -- what gives up after some reads gives up
  pub GivesUp-after : (before mid after : R) (answers : List (Result ℕ Error)) →
      Follows reads before answers mid → GivesUp reads mid after → GivesUp reads before after
  GivesUp-after before mid after answers chain (more, others, inl (front, error, last, other)) = (
    answers ++ more,
    Follows-append before mid after answers more chain others,
    inl (
      answers ++ front,
      error,
      ap (λ rest. answers ++ rest) last ∙ sym (append_assoc answers front (Err error ∷ [])),
      other,
    ),
  )
  GivesUp-after before mid after answers chain (more, others, inr many) =
      let long = length-append answers more in (
        answers ++ more,
        Follows-append before mid after answers more chain others,
        inr (omega (arith, long, many)),
      )
