-- The steps of reading a numeral.
use Rattle.std.proofs.Common.{◌≡◌, ℕ, ◌+◌, ◌*◌, ◌^◌, ◌<◌, ◌≤◌, List, [], ◌∷◌, true, Some, None, refl, get_or, length, sym, ap, subst, ◌∙◌, arith, rules}
use Rattle.std.proofs.lemmas.Bool.Decides.{nat_tests}
use Rattle.std.proofs.Math.Nat.{mul-le-mul_right}
use Rattle.tcltext.proofs.Choices.{choice}
use Rattle.tcltext.specs.Digit.{digit_value, is_digit}
use Rattle.tcltext.specs.White.{skip_white}
use Rattle.tcltext.specs.Numbers.{then_white, digits_behind, small}

pub small_some : (n : ℕ) → n < 2 ^ 64 → small (Some n) ≡ Some n
small_some n h = search (rules, nat_tests)

pub large_none : (n : ℕ) → 2 ^ 64 ≤ n → small (Some n) ≡ None
large_none n h = search (rules, nat_tests)

large_white : (n : ℕ) (x : List ℕ) → 2 ^ 64 ≤ n → small (then_white n x) ≡ None
large_white n [] h = large_none n h
large_white n (c ∷ x) h = refl

-- a number that is too large stays so with more digits
pub stays_large : (x : List ℕ) (base n : ℕ) → 1 ≤ base → 2 ^ 64 ≤ n → small (digits_behind base n x)
    ≡ None
stays_large [] base n b h = large_none n h
stays_large (c ∷ x) base n b h =
    let more : 1 * n ≤ base * n = mul-le-mul_right n b in
    let larger : 2 ^ 64 ≤ base * n + digit_value c = omega (arith, more) in
    choice (λ o. small o ≡ None) (is_digit base c) (digits_behind base (base * n + digit_value c) x)
    (then_white n (skip_white (c ∷ x))) (stays_large x base (base * n + digit_value c) b larger)
    (large_white n (skip_white (c ∷ x)) h)

-- The loop has come to the text's end.
pub number_ends : (x y : List ℕ) (base n : ℕ) → digits_behind base n y ≡ digits_behind base 0 x →
    length y < 1 → n < 2 ^ 64 → Some n ≡ small (digits_behind base 0 x)
number_ends x [] base n h none fits = sym (small_some n fits) ∙ ap small h
number_ends x (c ∷ y) base n h none fits = absurd (omega arith)

at_least : (n : ℕ) → (n < 2 ^ 64 → ⊥) → 2 ^ 64 ≤ n
at_least n h = omega arith

-- The loop has come to a digit with which the number is too large.
pub number_overflows : (x y : List ℕ) (base n d : ℕ) → digits_behind base n y
    ≡ digits_behind base 0 x → 1 ≤ length y → 2 ≤ base → d ≡ digit_value (get_or y 0 0) → d < base
    → (base * n + d < 2 ^ 64 → ⊥) → small (digits_behind base 0 x) ≡ None
number_overflows x [] base n d h some wide is digit large = absurd (omega arith)
number_overflows x (c ∷ y) base n d h some wide is digit large =
    let below : digit_value c < base = omega arith in
    let tells : is_digit base c ≡ true = search (rules, nat_tests) in
    let next : digits_behind base (base * n + digit_value c) y ≡ digits_behind base 0 x =
    rw tells at h in
    let over : 2 ^ 64 ≤ base * n + digit_value c =
    at_least (base * n + digit_value c)
    (λ k. large (subst (λ e. base * n + e < 2 ^ 64) (sym is) k)) in
    ap small (sym next) ∙ stays_large y base (base * n + digit_value c) (omega arith) over
