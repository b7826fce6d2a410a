-- Numbers that a text begins with: their digits go up to a byte that is none.
use Rattle.std.proofs.Common.{◌≡◌, ◌+◌, ◌%◌, ◌<◌, ◌^◌, ℕ, true, List, [], ◌∷◌, ◌++◌, take, drop, decimal, refl, sym, ap, ◌∙◌, arith, take-append-drop}
use Rattle.std.proofs.lemmas.Bool.{and_from, and_parts, false≢true}
use Rattle.std.proofs.lemmas.Bool.Decides.{nat_tests}
use Rattle.std.proofs.lemmas.Fmt.{decimal_by_steps, decimal_injective}
use Rattle.std.proofs.lemmas.List.Folds.{list_all-append}
use Rattle.std.specs.List.{list_all}
use Rattle.acts.specs.Id.{id_text}
use Rattle.lines.specs.Numerals.{EndsNumber, is_numeral}
use Rattle.lines.proofs.Cuts.{cons_same, head, tail}

numeral_digit : (d : ℕ) → d < 10 → is_numeral (48 + d) ≡ true
numeral_digit d small = grind (arith, nat_tests)

-- a number is spelled by digits alone
decimal_numerals : (n : ℕ) → n < 2 ^ 64 → list_all is_numeral (decimal n) ≡ true
decimal_numerals n below =
    decimal_by_steps (λ _ text. list_all is_numeral text ≡ true)
    (λ d small. and_from (is_numeral (48 + d)) true (numeral_digit d small) refl)
    (λ m text large front. list_all-append is_numeral text ((48 + m % 10) ∷ [])
    ∙ and_from (list_all is_numeral text) _ front
    (and_from (is_numeral (48 + m % 10)) true (numeral_digit (m % 10) (omega arith)) refl)) n below

-- digits up to a byte that is none are cut in one way
same_front : (a b x y : List ℕ) → list_all is_numeral a ≡ true → list_all is_numeral b ≡ true
    → EndsNumber x → EndsNumber y → a ++ x ≡ b ++ y → (a ≡ b) × (x ≡ y)
same_front [] [] x y la lb ends ends' e = (refl, e)
same_front [] (c ∷ b) [] y la lb ends ends' e = cc e
same_front [] (c ∷ b) (d ∷ x) y la lb ends ends' e =
    absurd (false≢true (sym ends ∙ ap is_numeral (head e) ∙ (and_parts (is_numeral c) _ lb).0))
same_front (c ∷ a) [] x [] la lb ends ends' e = cc e
same_front (c ∷ a) [] x (d ∷ y) la lb ends ends' e =
    absurd (false≢true (sym ends' ∙ ap is_numeral (sym (head e))
    ∙ (and_parts (is_numeral c) _ la).0))
same_front (c ∷ a) (d ∷ b) x y la lb ends ends' e =
    let (front, rest) = same_front a b x y (and_parts (is_numeral c) _ la).1
    (and_parts (is_numeral d) _ lb).1 ends ends' (tail e) in
    (cons_same c d a b (head e) front, rest)

-- a number and what follows it are known by their text
pub same_number : (m n : ℕ) (x y : List ℕ) → m < 2 ^ 64 → n < 2 ^ 64 → EndsNumber x → EndsNumber y
    → decimal m ++ x ≡ decimal n ++ y → (m ≡ n) × (x ≡ y)
same_number m n x y below below' ends ends' e =
    let (front, rest) = same_front (decimal m) (decimal n) x y (decimal_numerals m below)
    (decimal_numerals n below') ends ends' e in
    (decimal_injective m n below below' front, rest)

-- an id and what follows it are known by their text
pub same_id : (m n : ℕ) (x y : List ℕ) → m < 2 ^ 64 → n < 2 ^ 64 → EndsNumber x → EndsNumber y
    → id_text m ++ x ≡ id_text n ++ y → (m ≡ n) × (x ≡ y)
same_id m n x y below below' ends ends' e =
    same_number m n x y below below' ends ends' (ap (drop 3) e)

-- the digits that are counted spell the number that the text begins with
pub number_counted : (text rest : List ℕ) (count n : ℕ) → n < 2 ^ 64 → EndsNumber rest
    → list_all is_numeral (take count text) ≡ true → EndsNumber (drop count text)
    → text ≡ decimal n ++ rest → take count text ≡ decimal n
number_counted text rest count n below ends counted ends' e =
    (same_front (take count text) (decimal n) (drop count text) rest counted
    (decimal_numerals n below) ends' ends (take-append-drop count text ∙ e)).0
