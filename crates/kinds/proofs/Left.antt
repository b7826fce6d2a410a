-- What the answers of commands that see one part of the state say of their readings.
use Rattle.std.proofs.Common.{◌≡◌, ◌∙◌, ℕ, List, Result, Ok, Err, refl, sym, ap}
use Rattle.state.specs.Prelude.{Flaw, flaw_of, Answers, Raise}
use Rattle.acts.specs.declared.raise.Raise.TheVariants as raise
use Rattle.kinds.proofs.Readings.{then_comes}
use Rattle.kinds.specs.Answers.{Keeps, Stores}
use Rattle.kinds.specs.Readings.{Done, Reading, Found, ComesTo, Finds, Leaves, after, kept, once}

module _ {A V : Type 0} (r : Result (List ℕ) (Raise A)) where
  pub keeps_leave : (meant : Result (V × List ℕ) Flaw) (reading : Reading (Done V)) (old new : V) →
      reading ≡ Found (kept old meant) → Keeps meant old r new → Leaves reading r new
  keeps_leave meant reading old new is keeps = rw is (by r keeps)
    where
      by : (q : Result (List ℕ) (Raise A)) → Keeps meant old q new →
          Leaves (Found (kept old meant)) q new
      by (Ok value) same = ap (kept old) same
      by (Err (raise.Fault why)) fails =
          ap (kept old) fails.0
          ∙ ap (λ v. let d : Done V = (v, Err (flaw_of why)) in d) (sym fails.1)
      by (Err (raise.NoMemory refusal)) fails = tt

  pub stores_leave : (meant : Result (V × List ℕ) Flaw) (reading : Reading (Done V)) (old new : V) →
      reading ≡ Found (kept old meant) → Stores meant old r new → Leaves reading r new
  stores_leave meant reading old new is stores =
      keeps_leave meant reading old new is (by r stores)
    where
      by : (q : Result (List ℕ) (Raise A)) → Stores meant old q new → Keeps meant old q new
      by (Ok value) same = same
      by (Err (raise.Fault why)) fails = fails
      by (Err (raise.NoMemory refusal)) fails = tt

  pub answers_leave : (meant : Result (List ℕ) Flaw) (reading : Reading (Done V)) (v : V) →
      reading ≡ Found (v, meant) → Answers (λ value. value) meant r → Leaves reading r v
  answers_leave meant reading v is answers = rw is (by r answers)
    where
      by : (q : Result (List ℕ) (Raise A)) → Answers (λ value. value) meant q →
          Leaves (Found (v, meant)) q v
      by (Ok value) same = ap (λ m. let d : Done V = (v, m) in d) same
      by (Err (raise.Fault why)) same = ap (λ m. let d : Done V = (v, m) in d) same
      by (Err (raise.NoMemory refusal)) fails = tt

-- a part is read first
module _ {A X Y V : Type 0} (seen : Y → X) (v : V) (part : Reading (Result X Flaw))
    (next : X → Reading (Done V)) where
  -- the part has a value, and what follows that is the answer
  pub once_leaves : (new : V) (y : Y) (r : Result (List ℕ) (Raise A)) →
      ComesTo part (Ok (seen y)) → Leaves (next (seen y)) r new → Leaves (once part v next) r new
  once_leaves new y (Ok value) first second =
      then_comes part (λ x. after x v next) (Ok (seen y)) (new, Ok value) first second
  once_leaves new y (Err (raise.Fault why)) first second =
      then_comes part (λ x. after x v next) (Ok (seen y)) (new, Err (flaw_of why)) first second
  once_leaves new y (Err (raise.NoMemory refusal)) first second = tt

  -- the error of the part is the answer
  pub once_fails : (why : Raise A) → Finds {Y = Y} seen part (Err why) →
      Leaves (once part v next) (Err why) v
  once_fails (raise.Fault why) fails =
      then_comes part (λ x. after x v next) (Err (flaw_of why)) (v, Err (flaw_of why)) fails refl
  once_fails (raise.NoMemory refusal) fails = tt
