-- Decimal digits that are read one after the other.
use Rattle.std.proofs.Common.{◌≡◌, ◌≢◌, ◌+◌, ◌*◌, ◌/◌, ◌%◌, ◌<◌, ◌^◌, ℕ, zero, suc, List, [], ◌∷◌, ◌++◌, length, take, slice_index, decimal, refl, sym, ap, ◌∙◌, arith}
use Rattle.std.proofs.lemmas.Fmt.{decimal_digit, decimal_step}
use Rattle.std.proofs.lemmas.List.{take_more}

-- what holds after some digits: they spell the number, which is 0 where there are none
pub record IsReadTo (text : List ℕ) (place number : ℕ) : Type 0 where
  pub start : place ≡ 0 → number ≡ 0
  pub read : 0 < place → take place text ≡ decimal number

-- one digit more
pub digit_read : (text : List ℕ) (place number digit next : ℕ) → place < length text → digit < 10
    → slice_index text place ≡ 48 + digit → next ≡ 10 * number + digit → next < 2 ^ 64
    → (0 < place → number ≢ 0) → IsReadTo text place number → IsReadTo text (place + 1) next
digit_read text zero number digit next fits small is sum below some so_far =
    let none = so_far.start refl in
    let same : digit ≡ next = omega (arith, none, sum) in record {
      start = λ e. absurd (omega arith);
      read = λ more. take_more text 0 0 fits ∙ ap (λ b. b ∷ []) (is ∙ ap (λ d. 48 + d) same)
          ∙ sym (decimal_digit next (omega (arith, same)));
    }
digit_read text (suc place) number digit next fits small is sum below some so_far =
    let positive : 0 < number = positive_of number (some (omega arith)) in
    let front : next / 10 ≡ number = omega (arith, sum) in
    let last : next % 10 ≡ digit = omega (arith, sum) in record {
      start = λ e. absurd (omega arith);
      read = λ more. take_more text (suc place) 0 fits
          ∙ ap (λ l. l ++ slice_index text (suc place) ∷ []) (so_far.read (omega arith))
          ∙ ap (λ b. decimal number ++ b ∷ []) (is ∙ ap (λ d. 48 + d) (sym last))
          ∙ ap (λ n. decimal n ++ (48 + next % 10) ∷ []) (sym front)
          ∙ sym (decimal_step next (omega (arith, sum, positive)) below);
    }
  where
    positive_of : (n : ℕ) → n ≢ 0 → 0 < n
    positive_of zero some = absurd (some refl)
    positive_of (suc n) some = omega arith
