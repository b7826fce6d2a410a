-- The names of variables.
use Rattle.std.specs.Prelude.{ℕ, ◌-◌, ◌==◌, length, take, slice_get, nat_le, ◌&&◌, ◌||◌, List, [], ◌∷◌, Bool, false, Option, Some, None, option_map, if◌then◌else◌}
use Rattle.tclparse.specs.Context.{begins_with}

-- an ASCII letter or digit, or an underscore (Tcl(n), rule 8)
abbrev pub is_name : ℕ → Bool
is_name c =
    (nat_le 97 c && nat_le c 122) || ((nat_le 65 c && nat_le c 90)
    || ((nat_le 48 c && nat_le c 57) || (c == 95)))

-- the longest name at the front, and what follows it
abbrev pub name_at : List ℕ → List ℕ
name_at [] = []
name_at (c ∷ x) = if is_name c then c ∷ name_at x else []

abbrev pub after_name : List ℕ → List ℕ
after_name [] = []
after_name (c ∷ x) = if is_name c then after_name x else (c ∷ x)

-- the bytes before the first byte b, and the text from it on
abbrev pub until : ℕ → List ℕ → List ℕ
until b [] = []
until b (c ∷ x) = if c == b then [] else c ∷ until b x

abbrev pub from : ℕ → List ℕ → List ℕ
from b [] = []
from b (c ∷ x) = if c == b then (c ∷ x) else from b x

-- the text begins with ::, the mark of a namespace, which is not allowed here
abbrev pub begins_with_colons : List ℕ → Bool
begins_with_colons [] = false
begins_with_colons (c ∷ x) = (c == 58) && begins_with 58 x

-- the name holds ::, the mark of a namespace
abbrev pub holds_colons : List ℕ → Bool
holds_colons [] = false
holds_colons (c ∷ x) = begins_with_colons (c ∷ x) || holds_colons x

-- there is a byte, and it is b
abbrev pub is_byte : ℕ → Option ℕ → Bool
is_byte b None = false
is_byte b (Some c) = c == b

-- the text ends with the byte b
abbrev pub ends_with : ℕ → List ℕ → Bool
ends_with b x = is_byte b (slice_get x (length x - 1))

-- what stands between an open parenthesis at the front and a closing one at the end
abbrev pub index_of : List ℕ → Option (List ℕ)
index_of [] = None
index_of (c ∷ x) = if ends_with 41 x then Some (take (length x - 1) x) else None

-- the array and the index of a name of the form a(i) (Tcl(n), rule 8)
abbrev pub element_of : List ℕ → Option (List ℕ × List ℕ)
element_of n = option_map (λ i. (until 40 n, i)) (index_of (from 40 n))

-- An element needs a name before its parenthesis (this project's own rule).
abbrev pub element_named : List ℕ → List ℕ → Option (List ℕ × Option (List ℕ))
element_named [] i = None
element_named (c ∷ n) i = Some (c ∷ n, Some i)

-- a name by its form: one of an element, or else the whole of it
abbrev pub named_as : List ℕ → Option (List ℕ × List ℕ) → Option (List ℕ × Option (List ℕ))
named_as n None = Some (n, None)
named_as n (Some e) = element_named e.0 e.1

-- The variable, or the array and the index, that a whole name stands for, as in ${name} and in set
-- name (Tcl(n), rule 8; set(n)). A name that holds the mark of a namespace stands for none (this
-- project's own rule).
abbrev pub named : List ℕ → Option (List ℕ × Option (List ℕ))
named n = if holds_colons n then None else named_as n (element_of n)
