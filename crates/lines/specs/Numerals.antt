-- Decimal digits at the front of a text.
use Rattle.std.specs.Prelude.{◌≡◌, ◌&&◌, nat_le, ℕ, Bool, false, List, [], ◌∷◌}

-- `0` to `9`
abbrev pub is_numeral : ℕ → Bool
is_numeral b = nat_le 48 b && nat_le b 57

-- what may follow a number: nothing, or a byte that is no digit
abbrev pub EndsNumber : List ℕ → Type 0
EndsNumber [] = Unit {0}
EndsNumber (b ∷ rest) = is_numeral b ≡ false
