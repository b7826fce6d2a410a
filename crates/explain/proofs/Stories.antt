-- What a story is told by the calls of who watches a run.
use Rattle.std.proofs.Common.{◌≡◌, ℕ, Bool, true, false, not, ◌&&◌, List, [], ◌∷◌, Result, Ok, Err, Vec, refl, sym, subst, append-nil, arith}
use Rattle.std.specs.Prelude.{IfOk, IsOkAnd}
use Rattle.std.proofs.lemmas.Bool.{and_parts}
use Rattle.acts.specs.Deed.{Deed, Reply}
use Rattle.records.specs.Sink.{Takes}
use Rattle.teller.specs.Told.{IsLineOf, IsTold, may_be_unasked}
use Rattle.teller.specs.declared.telling.Detail.TheVariants.{Whole}
use Rattle.explain.specs.Counts.{CountsOn}
use Rattle.explain.specs.Stories.{Ends, GoesOn, Line, Other, Tells, Told, Unasked}

-- more lines tell of no act
only_more : (text : List ℕ) → Tells [] text
only_more text = subst (Tells []) (append-nil text) (Other text Ends)

-- what is told of an act and its answer tells them
tells_by : (deed : Deed) (reply : Reply) (text : List ℕ) (asked test : Bool) →
    (may_be_unasked deed && not asked) ≡ test → IsTold asked deed reply text →
    Tells ((deed, reply) ∷ []) text
tells_by deed reply text asked true is told =
    let nothing : text ≡ [] = rw is at told in
    subst (Tells ((deed, reply) ∷ [])) (sym nothing) (Unasked (and_parts _ _ is).0 Ends)
tells_by deed reply text asked false is told =
    let line : IsLineOf deed reply text = rw is at told in
    subst (Tells ((deed, reply) ∷ [])) (append-nil text) (Line text line Ends)

pub tells_one : (deed : Deed) (reply : Reply) (text : List ℕ) (asked : Bool) →
    IsTold asked deed reply text → Tells ((deed, reply) ∷ []) text
tells_one deed reply text asked told = tells_by deed reply text asked _ refl told

-- where lines were given, they are the text
pub tells_lines : {A N : Type 0} (deed : Deed) (reply : Reply) (text : List ℕ) (asked : Bool)
    (given : Result (Vec ℕ A) N) → IfOk given (λ lines. IsTold asked deed reply lines.items) →
    IsOkAnd given (λ lines. lines.items ≡ text) → Tells ((deed, reply) ∷ []) text
tells_lines deed reply text asked (Ok lines) told same =
    subst (Tells ((deed, reply) ∷ [])) same (tells_one deed reply lines.items asked told)
tells_lines deed reply text asked (Err refusal) told same = absurd same

module _ {S : Type 0} (adds : S → List ℕ → S → Type 0) (failed : S → Bool)
    (before after : Told S) (text : List ℕ) where
  -- a story that is told of no act
  pub goes_on_by : after.acts ≡ before.acts → after.detail ≡ before.detail →
      (before.is_lost ≡ true → after.is_lost ≡ true) → Takes adds failed before.sink text after.sink
      → GoesOn adds failed before [] after
  goes_on_by acts detail lost takes = record {
    counts = omega (arith, acts);
    detail = detail;
    lost = lost;
    text = text;
    takes = takes;
    tells = λ whole kept. only_more text;
  }

  -- a story that is told of an act and its answer
  pub goes_on_with : (deed : Deed) (reply : Reply) → CountsOn before.acts 1 after.acts →
      after.detail ≡ before.detail → (before.is_lost ≡ true → after.is_lost ≡ true) →
      Takes adds failed before.sink text after.sink →
      (after.detail ≡ Whole → after.is_lost ≡ false → Tells ((deed, reply) ∷ []) text) →
      GoesOn adds failed before ((deed, reply) ∷ []) after
  goes_on_with deed reply counts detail lost takes tells = record {
    counts = counts;
    detail = detail;
    lost = lost;
    text = text;
    takes = takes;
    tells = tells;
  }
