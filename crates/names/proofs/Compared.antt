-- A text is a name where it is as long and has the same bytes, which is what a `match` tests.
use Rattle.std.proofs.Common.{◌≡◌, ℕ, suc, Bool, true, nat_eq, ◌&&◌, List, [], ◌∷◌, length, slice_index_or, refl, arith}
use Rattle.std.proofs.lemmas.Grind.{common_steps}
use Rattle.std.specs.Str.{bytes_eq}

-- from this place on the bytes of a text are those of a name
abbrev pub goes_on : List ℕ → ℕ → List ℕ → Bool
goes_on text at [] = true
goes_on text at (b ∷ name) = nat_eq (slice_index_or text at 0) b && goes_on text (suc at) name

shifted : (b : ℕ) (text : List ℕ) (at : ℕ) (name : List ℕ) →
    goes_on (b ∷ text) (suc at) name ≡ goes_on text at name
shifted b text at [] = refl
shifted b text at (c ∷ name) = rw (shifted b text (suc at) name) refl

pub compared : (text name : List ℕ) →
    bytes_eq text name ≡ (nat_eq (length text) (length name) && goes_on text 0 name)
compared [] [] = refl
compared [] (c ∷ name) = grind (arith, common_steps)
compared (b ∷ text) [] = grind (arith, common_steps)
compared (b ∷ text) (c ∷ name) =
    grind (arith, common_steps, compared text name, shifted b text 0 name)
