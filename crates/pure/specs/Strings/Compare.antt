-- What string equal and string compare do.
use Rattle.std.specs.Prelude.{ℕ, List, [], ◌∷◌, codes}
use Rattle.std.specs.Cmp.Lexicographic.{slice_cmp}
use Rattle.std.specs.Ordering.{nat_cmp}
use Rattle.std.specs.Str.{bytes_eq}
use Rattle.std.specs.declared.cmp.Ordering.{Ordering}
use Rattle.std.specs.declared.cmp.Ordering.TheVariants.{Less, Equal, Greater}
use Rattle.acts.specs.Flaw as flaw
use Rattle.meanings.specs.Meaning.{Meaning, Gives, Raises, truth}

-- string equal a b tells whether two strings have the same bytes (string(n), equal)
abbrev pub equal : List (List ℕ) → Meaning
equal (a ∷ b ∷ []) = Gives (truth (bytes_eq a b))
equal _ = Raises (flaw.WrongArgs (codes "string"))

-- the text of an order (string(n), compare)
abbrev pub sign_of : Ordering → List ℕ
sign_of Less = codes "-1"
sign_of Equal = codes "0"
sign_of Greater = codes "1"

-- string compare a b orders two strings by their first different byte, or by their lengths
-- (string(n), compare)
abbrev pub compare : List (List ℕ) → Meaning
compare (a ∷ b ∷ []) = Gives (sign_of (slice_cmp nat_cmp a b))
compare _ = Raises (flaw.WrongArgs (codes "string"))
