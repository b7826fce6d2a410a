-- The values of an array's indexes, where one more is read.
use Rattle.std.proofs.Common.{◌≡◌, ◌∙◌, ℕ, List, [], ◌∷◌, ◌++◌, Some, Result, Ok, Err, refl, sym, ap, append_assoc}
use Rattle.acts.specs.Flaw.{Flaw}
use Rattle.acts.specs.Raise.{bind}
use Rattle.kinds.specs.Variables.{value_of}
use Rattle.tclstate.specs.Scopes.{Scopes}
use Rattle.variables.specs.Array.Get.{values}

-- the index and its value stand after those that were read
pub one_more : (name : List ℕ) (v : Scopes) (t value : List ℕ) (rest had now : List (List ℕ)) →
    value_of name (Some t) v ≡ Ok value → now ≡ had ++ t ∷ value ∷ [] →
    (let before : List (List ℕ) → Result (List (List ℕ)) Flaw = λ more. Ok (had ++ more) in
    let after : List (List ℕ) → Result (List (List ℕ)) Flaw = λ more. Ok (now ++ more) in
    bind (values name (t ∷ rest) v) before ≡ bind (values name rest v) after)
one_more name v t value rest had now is pushed = rw is (by (values name rest v))
  where
    by : (r : Result (List (List ℕ)) Flaw) →
        (let pair : List (List ℕ) → Result (List (List ℕ)) Flaw =
        λ more. Ok (t ∷ value ∷ more) in
        let before : List (List ℕ) → Result (List (List ℕ)) Flaw = λ more. Ok (had ++ more) in
        let after : List (List ℕ) → Result (List (List ℕ)) Flaw = λ more. Ok (now ++ more) in
        bind (bind r pair) before ≡ bind r after)
    by (Ok more) =
        ap Ok (sym (ap (λ l. l ++ more) pushed ∙ append_assoc had (t ∷ value ∷ []) more))
    by (Err flaw) = refl
