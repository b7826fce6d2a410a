-- Names that are no elements.
use Rattle.std.proofs.Common.{◌≡◌, ℕ, suc, ◌-◌, ◌==◌, List, [], ◌∷◌, length, Bool, true, false, None, refl, ap, ◌∙◌, sym, arith, if◌then◌else◌}
use Rattle.std.specs.Prelude.{option_map}
use Rattle.tclparse.specs.Variable.{element_of, ends_with, from, index_of, until}

-- the end of a text is that of the text after its first byte, where there is one
ends_later : (b c d : ℕ) (x : List ℕ) → ends_with b (c ∷ d ∷ x) ≡ ends_with b (d ∷ x)
ends_later b c d x =
    let two : suc (suc (length x)) - 1 ≡ suc (length x) = omega arith in
    let one : suc (length x) - 1 ≡ length x = omega arith in
    rw two (rw one refl)

-- what does not end with a byte has no rest that does
rest_ends : (b c : ℕ) (x : List ℕ) → ends_with b (c ∷ x) ≡ false → ends_with b x ≡ false
rest_ends b c [] is = refl
rest_ends b c (d ∷ x) is = sym (ends_later b c d x) ∙ is

no_index : (n : List ℕ) (opens : Bool) (c : ℕ) → ends_with 41 (c ∷ n) ≡ false →
    index_of (from 40 n) ≡ None →
    index_of (if opens then (c ∷ n) else from 40 n) ≡ None
no_index n true c is none = rw (rest_ends 41 c n is) refl
no_index n false c is none = none

-- without a closing parenthesis at the end there is no index
index_closes : (n : List ℕ) → ends_with 41 n ≡ false → index_of (from 40 n) ≡ None
index_closes [] is = refl
index_closes (c ∷ n) is = no_index n (c == 40) c is (index_closes n (rest_ends 41 c n is))

-- a name that ends otherwise is none of an element
pub no_element : (n : List ℕ) → ends_with 41 n ≡ false → None ≡ element_of n
no_element n is = sym (ap (option_map (λ i. (until 40 n, i))) (index_closes n is))
