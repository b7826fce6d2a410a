-- What follows where operands are numbers, and where they are not.
use Rattle.std.proofs.Common.{◌≡◌, List, ℕ, Some, None, ℤ, Result, Ok, Err, IfErr, IsErrAnd, sym, subst}
use Rattle.acts.specs.Flaw as flaw
use Rattle.meanings.specs.Meaning.{Meaning, Raises}
use Rattle.meanings.specs.View.{Answers}
use Rattle.acts.specs.declared.raise.Raise.{Raise}
use Rattle.operators.specs.Number.{number_of, follows, with_number, with_both}
use Rattle.operators.specs.View.{IsNoNumber, AreNumbers, AreNoNumbers}

module _ {A : Type 0} where
  -- the text is no number, and the fault says so
  pub no_number : (text : List ℕ) (fault : Raise A) → number_of text ≡ None →
      Answers (Raises (flaw.NotANumber text)) (Err fault) → IsNoNumber text fault
  no_number text fault none says next =
      subst (λ o. Answers (follows o text next) (Err fault)) (sym none) says

  -- the text is a number, and the answer is that which follows it
  pub one : (text : List ℕ) (n : ℤ) (next : ℤ → Meaning) (r : Result (List ℕ) (Raise A)) →
      number_of text ≡ Some n → Answers (next n) r → Answers (with_number text next) r
  one text n next r is says = subst (λ o. Answers (follows o text next) r) (sym is) says

  -- the left text is no number
  pub no_left : (left right : List ℕ) (fault : Raise A) → IsNoNumber left fault →
      AreNoNumbers left right fault
  no_left left right fault none next = none (λ x. with_number right (λ y. next x y))

  -- the left text is a number, and the right one is not
  pub no_right : (left right : List ℕ) (x : ℤ) (fault : Raise A) →
      number_of left ≡ Some x → IsNoNumber right fault → AreNoNumbers left right fault
  no_right left right x fault is none next =
      one left x (λ x. with_number right (λ y. next x y)) (Err fault) is (none (next x))

  -- both texts are numbers, and the answer is that which follows them
  pub both : (left right : List ℕ) (numbers : ℤ × ℤ) (next : ℤ → ℤ → Meaning)
      (r : Result (List ℕ) (Raise A)) → AreNumbers left right numbers →
      Answers (next numbers.0 numbers.1) r → Answers (with_both left right next) r
  both left right numbers next r are says =
      one left numbers.0 (λ x. with_number right (λ y. next x y)) r are.0
      (one right numbers.1 (next numbers.0) r are.1 says)

  -- an error is passed on
  pub passed : (m : Meaning) (r : Result (List ℕ) (Raise A)) (fault : Raise A) →
      Answers m (Err fault) → IsErrAnd r (λ handed. handed ≡ fault) → Answers m r
  passed m (Ok value) fault says handed = absurd handed
  passed m (Err why) fault says handed =
      subst (λ (f : Raise A). Answers m (Err f)) (sym handed) says

-- what holds of an error still holds where it is passed on
pub of_passed : {A T : Type 0} (P : Raise A → Type 0) (r : Result T (Raise A))
    (fault : Raise A) → P fault → IsErrAnd r (λ handed. handed ≡ fault) → IfErr r P
of_passed P (Ok value) fault holds handed = absurd handed
of_passed P (Err why) fault holds handed = subst P (sym handed) holds
