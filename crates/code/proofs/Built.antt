-- Code that grows at its end.
use Rattle.std.proofs.Common.{◌≡◌, ◌∙◌, ℕ, zero, suc, ◌+◌, ◌<◌, ◌≤◌, List, [], ◌∷◌, ◌++◌, length, Some, refl, sym, ap, subst, arith, length-append}
use Rattle.std.specs.Prelude.{slice_get, slice_set}
use Rattle.std.proofs.lemmas.Option.{slice_get-get_or, slice_get_within}
use Rattle.std.proofs.Math.Seq.{get_or-append_seam}
use Rattle.code.specs.Blocks.{Extends, IsReal, Keeps}
use Rattle.code.specs.Code.{At}
use Rattle.code.specs.declared.instruction.Instruction.{Instruction}
use Rattle.code.specs.declared.instruction.Instruction.TheVariants as i

module _ {A : Type 0} where
  put_at : (code : List (Instruction A)) (it : Instruction A) → At (code ++ it ∷ []) (length code) it
  put_at code it =
      let within : length code < length (code ++ it ∷ []) =
      omega (arith, length-append code (it ∷ [])) in
      slice_get-get_or (code ++ it ∷ []) (length code) it within
      ∙ ap Some (get_or-append_seam code it [] it)

  kept_by : (code more : List (Instruction A)) (place : ℕ) (it : Instruction A) →
      At code place it → At (code ++ more) place it
  kept_by [] more place it at = absurd cc
  kept_by (x ∷ code) more zero it at = at
  kept_by (x ∷ code) more (suc place) it at = kept_by code more place it at

  nothing : (it : Instruction A) → At [] zero it → ⊥
  nothing it at = cc

  -- code extends itself, and what is put after it extends it
  pub same : (code : List (Instruction A)) → Extends code code
  same code = record { kept = λ place it at. at }

  pub onward : {a b c : List (Instruction A)} → Extends a b → Extends b c → Extends a c
  onward first second = record {
    kept = λ place it at. second.kept place it (first.kept place it at);
  }

  -- what is kept of code that extends other code is kept of that
  pub kept_on : {a b c : List (Instruction A)} → Extends a b → Keeps b c → Keeps a c
  kept_on first second = record {
    kept = λ place it real at. second.kept place it real (first.kept place it at);
  }

  pub keeps : {a b : List (Instruction A)} → Extends a b → Keeps a b
  keeps e = record { kept = λ place it real at. e.kept place it at }

  pub kept_then : {a b c : List (Instruction A)} → Keeps a b → Keeps b c → Keeps a c
  kept_then first second = record {
    kept = λ place it real at. second.kept place it real (first.kept place it real at);
  }

  -- code that extends other code is no shorter
  pub grows : (a b : List (Instruction A)) → Extends a b → length a ≤ length b
  grows [] b e = omega arith
  grows (x ∷ a) [] e = absurd (nothing x (e.kept zero x refl))
  grows (x ∷ a) (y ∷ b) e =
      let rest = grows a b (record { kept = λ place it at. e.kept (suc place) it at }) in
      omega (arith, rest)

  pub all_kept : (code : List (Instruction A)) → Keeps code code
  all_kept code = record { kept = λ place it real at. at }

  pub extended : (old new : List (Instruction A)) (it : Instruction A) →
      new ≡ old ++ it ∷ [] → Extends old new
  extended old new it is = record {
    kept = λ place other at.
        subst (λ code. At code place other) (sym is) (kept_by old (it ∷ []) place other at);
  }

  -- an instruction that was put stands where the code ended, in all later code
  pub stands : (old new later : List (Instruction A)) (it : Instruction A) → IsReal it →
      new ≡ old ++ it ∷ [] → Keeps new later → At later (length old) it
  stands old new later it real is e =
      e.kept (length old) it real (subst (λ code. At code (length old) it) (sym is) (put_at old it))

  pub longer : (old new : List (Instruction A)) (it : Instruction A) →
      new ≡ old ++ it ∷ [] → length new ≡ length old + 1
  longer old new it is = ap length is ∙ length-append old (it ∷ [])

  -- an instruction at another place stays where one is set
  pub kept_set : (a : List (Instruction A)) (n place : ℕ) (new it : Instruction A) →
      (place ≡ n → ⊥) → At a place it → At (slice_set a n new) place it
  kept_set [] n place new it other at = absurd cc
  kept_set (x ∷ a) zero zero new it other at = absurd (other refl)
  kept_set (x ∷ a) zero (suc place) new it other at = at
  kept_set (x ∷ a) (suc n) zero new it other at = at
  kept_set (x ∷ a) (suc n) (suc place) new it other at =
      kept_set a n place new it (λ same. other (ap suc same)) at

  set_at : (a : List (Instruction A)) (n : ℕ) (new it : Instruction A) → At a n it →
      At (slice_set a n new) n new
  set_at [] n new it at = absurd cc
  set_at (x ∷ a) zero new it at = refl
  set_at (x ∷ a) (suc n) new it at = set_at a n new it at

  same_some : (x y : Instruction A) → Some x ≡ Some y → x ≡ y
  same_some x y is = cc

  not_hole : (it : Instruction A) → IsReal it → it ≡ i.Hole → ⊥
  not_hole it real is = subst IsReal is real

  -- a place that was a hole is filled: all else stands there still
  pub filled : (code : List (Instruction A)) (n : ℕ) (it : Instruction A) → At code n i.Hole →
      Keeps code (slice_set code n it)
  filled code n it hole = record {
    kept = λ place other real at. kept_set code n place it other
        (λ same. not_hole other real
        (same_some other i.Hole (sym at ∙ ap (slice_get code) same ∙ hole))) at;
  }

  -- what stood before that place stands there still
  pub filled_after : (old code : List (Instruction A)) (n : ℕ) (it : Instruction A) →
      length old ≤ n → Extends old code → Extends old (slice_set code n it)
  filled_after old code n it far e = record {
    kept = λ place other at. kept_set code n place it other
        (λ same. let within = slice_get_within old place other at in
        absurd (omega (arith, same, far, within)))
        (e.kept place other at);
  }

  -- the new instruction stands there, in all later code
  pub stands_filled : (code later : List (Instruction A)) (n : ℕ) (it : Instruction A) → IsReal it →
      At code n i.Hole → Keeps (slice_set code n it) later → At later n it
  stands_filled code later n it real hole e = e.kept n it real (set_at code n it i.Hole hole)

  -- a hole that was put stands where the code ended, as long as code is only put after it
  pub holes : (old new : List (Instruction A)) → new ≡ old ++ i.Hole ∷ [] →
      At new (length old) i.Hole
  holes old new is = subst (λ code. At code (length old) i.Hole) (sym is) (put_at old i.Hole)
