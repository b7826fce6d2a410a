-- Elements of an array that are written one after the other.
use Rattle.std.proofs.Common.{◌≡◌, ℕ, List, [], ◌∷◌, Some, Result, Ok, Err, refl, sym, ap, ◌∙◌}
use Rattle.acts.specs.Flaw.{Flaw, flaw_of}
use Rattle.acts.specs.Raise.{bind}
use Rattle.acts.specs.declared.fault.Fault.{Fault}
use Rattle.acts.specs.declared.raise.Raise.{Raise}
use Rattle.acts.specs.declared.raise.Raise.TheVariants as raise
use Rattle.kinds.specs.Answers.{IsTroubled, PutsAll}
use Rattle.kinds.specs.Variables.{first_index, put, put_all, untroubled}
use Rattle.state.specs.Variables.{flaw_of_trouble, spelled}
use Rattle.tclstate.specs.InTurn.{Leaves}
use Rattle.tclstate.specs.ScopeError.{HasTroubleOrRefusal}
use Rattle.tclstate.specs.Scopes.{Scopes, Trouble, and_then, written, all_written}
use Rattle.tclstate.specs.declared.error.ScopeError.{ScopeError}
use Rattle.tclstate.specs.declared.error.ScopeError.TheVariants as error
use Rattle.tclstate.proofs.InTurn.{first_stops, all_others}

-- what can all be written is put
pub all_put : (name : List ℕ) (es : List (List ℕ × List ℕ)) (v new : Scopes) →
    all_written v name es ≡ Ok new → put_all name es v ≡ Ok new
all_put name [] v new is = let same : v ≡ new = cc in ap Ok same
all_put name (e ∷ es) v new is =
    by (λ t h. all_put name es t new h) (written v name (Some e.0) e.1) is
  where
    by : ((t : Scopes) → all_written t name es ≡ Ok new → put_all name es t ≡ Ok new) →
        (r : Result Scopes Trouble) → and_then r (λ after. all_written after name es) ≡ Ok new →
        bind (untroubled r (spelled name (Some e.0))) (put_all name es) ≡ Ok new
    by rest (Ok t) is = rest t is
    by rest (Err trouble) is = cc

module _ (name : List ℕ) (e : List ℕ × List ℕ) (es : List (List ℕ × List ℕ)) (v : Scopes) where
  -- the trouble is that of the first element
  first_fails : (trouble : Trouble) → all_written v name (e ∷ es) ≡ Err trouble →
      put_all name (e ∷ es) v ≡ Err (flaw_of_trouble trouble (spelled name (Some e.0)))
  first_fails trouble is =
      ap (λ r. bind (untroubled r (spelled name (Some e.0))) (put_all name es))
      (first_stops v name e.0 e.1 es trouble is)

  -- only the first element can be the one that can't be written
  pub only_first : (flaw : Flaw) → put_all name (e ∷ es) v ≡ Err flaw →
      put name (Some e.0) e.1 v ≡ Err flaw
  only_first flaw is = by (written v name (Some e.0) e.1) refl is
    where
      by : (r : Result Scopes Trouble) → written v name (Some e.0) e.1 ≡ r →
          bind (untroubled r (spelled name (Some e.0))) (put_all name es) ≡ Err flaw →
          untroubled r (spelled name (Some e.0)) ≡ Err flaw
      by (Ok t) made is =
          let others = all_others v t name es e.0 e.1 made in
          let all = all_put name es t others.0 others.1 in cc
      by (Err trouble) made is = is

module _ {A : Type 0} (name : List ℕ) (old new : Scopes) where
  failed : (es : List (List ℕ × List ℕ)) (trouble : Trouble) (why : Fault A) →
      all_written old name es ≡ Err trouble →
      flaw_of why ≡ flaw_of_trouble trouble (spelled name (first_index es)) →
      put_all name es old ≡ Err (flaw_of why)
  failed [] trouble why is told = cc
  failed (e ∷ es) trouble why is told = first_fails name e es old trouble is ∙ ap Err (sym told)

  -- the error where elements could not be written
  pub fails_all : (T : Type 0) (es : List (List ℕ × List ℕ)) (why : Raise A) (e : ScopeError) →
      HasTroubleOrRefusal e (all_written old name es) → Leaves e name es old new →
      IsTroubled why e name (first_index es) →
      PutsAll {A = A} {T = T} (put_all name es old) old (Err why) new
  fails_all T es (raise.Fault why) error.NoVariable is left told =
      (failed es _ why is told, left)
  fails_all T es (raise.Fault why) error.IsArray is left told = (failed es _ why is told, left)
  fails_all T es (raise.Fault why) error.NotArray is left told = (failed es _ why is told, left)
  fails_all T es (raise.Fault why) error.NoElement is left told =
      (failed es _ why is told, left)
  fails_all T es (raise.Fault why) (error.NoMemory e) is left told = absurd told
  fails_all T es (raise.NoMemory refusal) e is left told = tt
