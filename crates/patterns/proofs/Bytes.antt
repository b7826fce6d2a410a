-- Where a byte stands among bytes whose letters are folded.
use Rattle.std.proofs.Common.{◌≡◌, ℕ, zero, suc, Bool, true, false, List, [], ◌∷◌, map, refl, sym, ◌∙◌, ap, arith, Option, Some, None, slice_index}
use Rattle.std.specs.Char.{to_ascii_lowercase, to_ascii_uppercase, IsAsciiUppercase, IsNotAsciiUppercase}
use Rattle.std.proofs.lemmas.List.{length-map}
use Rattle.std.proofs.lemmas.Bool.{false≢true}
use Rattle.std.proofs.lemmas.Bool.Decides.{nat_tests}
use Rattle.memchr.specs.Find.{IsFirstByte, IsLastByte, Passes, is_byte, is_byte2}
use Rattle.patterns.specs.Match.{compared}

-- no byte compares as an upper case letter
never_upper : (b x : ℕ) → IsAsciiUppercase b → ¬ (is_byte b (to_ascii_lowercase x) ≡ true)
never_upper b x upper is = grind (arith, nat_tests)

-- the bytes that compare as one that is no upper case letter
either_case : (b x : ℕ) → IsNotAsciiUppercase b → is_byte2 b (to_ascii_uppercase b) x
    ≡ is_byte b (to_ascii_lowercase x)
either_case b x lower = grind (arith, nat_tests)

index_lower : (w : List ℕ) (k : ℕ) → slice_index (map to_ascii_lowercase w) k
    ≡ to_ascii_lowercase (slice_index w k)
index_lower [] k = refl
index_lower (b ∷ w) zero = refl
index_lower (b ∷ w) (suc k) = index_lower w k

-- an upper case letter stands nowhere among them
pub none_upper : (folds : Bool) (b : ℕ) (w : List ℕ) → folds ≡ true → IsAsciiUppercase b →
    (k : ℕ) → ¬ Passes (is_byte b) (compared folds w) k
none_upper false b w on upper k is = absurd (false≢true on)
none_upper true b w on upper k is = never_upper b (slice_index w k) upper
    (ap (is_byte b) (sym (index_lower w k)) ∙ is)

passes_folded : (b : ℕ) (w : List ℕ) (k : ℕ) → IsNotAsciiUppercase b →
    is_byte2 b (to_ascii_uppercase b) (slice_index w k)
    ≡ is_byte b (slice_index (map to_ascii_lowercase w) k)
passes_folded b w k lower = either_case b (slice_index w k) lower
    ∙ ap (is_byte b) (sym (index_lower w k))

-- the first place of either case is the first place of the byte
pub first_folded : (folds : Bool) (b other : ℕ) (w : List ℕ) (r : Option ℕ) → folds ≡ true →
    IsNotAsciiUppercase b → other ≡ to_ascii_uppercase b → IsFirstByte (is_byte2 b other) w r →
    IsFirstByte (is_byte b) (compared folds w) r
first_folded false b other w r on lower same found = absurd (false≢true on)
first_folded true b other w None on lower same none = λ k low below is.
    none k low (omega (arith, length-map w to_ascii_lowercase))
    (ap (λ (x : ℕ). is_byte2 b x (slice_index w k)) same ∙ passes_folded b w k lower ∙ is)
first_folded true b other w (Some at) on lower same found = (
  record {
    low = found.0.low;
    high = omega (arith, found.0.high, length-map w to_ascii_lowercase);
    before = λ k low below is. found.0.before k low below
        (ap (λ (x : ℕ). is_byte2 b x (slice_index w k)) same ∙ passes_folded b w k lower ∙ is);
  },
  sym (passes_folded b w at lower)
      ∙ ap (λ (x : ℕ). is_byte2 b x (slice_index w at)) (sym same) ∙ found.1,
)

-- the last place of either case is the last place of the byte
pub last_folded : (folds : Bool) (b other : ℕ) (w : List ℕ) (r : Option ℕ) → folds ≡ true →
    IsNotAsciiUppercase b → other ≡ to_ascii_uppercase b → IsLastByte (is_byte2 b other) w r →
    IsLastByte (is_byte b) (compared folds w) r
last_folded false b other w r on lower same found = absurd (false≢true on)
last_folded true b other w None on lower same none = λ k low below is.
    none k low (omega (arith, length-map w to_ascii_lowercase))
    (ap (λ (x : ℕ). is_byte2 b x (slice_index w k)) same ∙ passes_folded b w k lower ∙ is)
last_folded true b other w (Some at) on lower same found = (
  record {
    low = found.0.low;
    high = omega (arith, found.0.high, length-map w to_ascii_lowercase);
    after = λ k low below is. found.0.after k low
        (omega (arith, length-map w to_ascii_lowercase))
        (ap (λ (x : ℕ). is_byte2 b x (slice_index w k)) same ∙ passes_folded b w k lower ∙ is);
  },
  sym (passes_folded b w at lower)
      ∙ ap (λ (x : ℕ). is_byte2 b x (slice_index w at)) (sym same) ∙ found.1,
)
