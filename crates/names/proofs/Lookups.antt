-- A name is looked up among the names of its length only.
use Rattle.std.proofs.Common.{◌≡◌, ℕ, Bool, true, false, nat_eq, List, [], ◌∷◌, length, Option, refl, sym, ap, ◌∙◌, arith}
use Rattle.std.specs.Str.{bytes_eq}
use Rattle.names.specs.Tables.{Table, found, so_long}
use Rattle.names.proofs.Compared.{compared}

-- a text of another length is another text
other : (name known : List ℕ) → nat_eq (length known) (length name) ≡ false →
    bytes_eq name known ≡ false
other name known differs = grind (arith, compared name known)

one_more : {X : Type 0} (row : List ℕ × X) (rows : Table X) (name : List ℕ) (same : Bool) →
    nat_eq (length row.0) (length name) ≡ same →
    found rows name ≡ found (so_long (length name) rows) name →
    found (row ∷ rows) name ≡ found (so_long (length name) (row ∷ rows)) name
one_more row rows name true is rest = rw (is, rest) refl
one_more row rows name false is rest = rw (is, other name row.0 is) rest

-- a look-up among all names gives the same as one among those of the name's length
pub by_length : {X : Type 0} (rows : Table X) (name : List ℕ) →
    found rows name ≡ found (so_long (length name) rows) name
by_length [] name = refl
by_length (row ∷ rows) name =
    one_more row rows name (nat_eq (length row.0) (length name)) refl (by_length rows name)

-- so what stands for a name among those of its length stands for it among all
pub among : {X : Type 0} (rows : Table X) (name : List ℕ) (size : ℕ) (thing : Option X) →
    length name ≡ size → thing ≡ found (so_long size rows) name → thing ≡ found rows name
among rows name size thing is stands =
    stands ∙ ap (λ long. found (so_long long rows) name) (sym is) ∙ sym (by_length rows name)
