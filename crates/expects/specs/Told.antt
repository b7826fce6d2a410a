-- The elements of expect_out that the code sets, as lists.
use Rattle.std.specs.Prelude.{ℕ, pos, List, [], ◌∷◌, codes, decimal, None, ◌-ℤ◌, drop}
use Rattle.std.specs.Fmt.{signed_decimal}
use Rattle.state.specs.Prelude.{Scopes}
use Rattle.patterns.specs.declared.search.Found.{Found}
use Rattle.expects.specs.Report.{Written, and_then, sets}

-- elements of expect_out are written one after the other, up to the first that can't be
abbrev pub sets_all : List (List ℕ × List ℕ) → Scopes → Written
sets_all [] v = (v, None)
sets_all (e ∷ es) v = and_then (sets e.0 e.1 v) (sets_all es)

-- the id and the buffer
abbrev pub buffer_told : List ℕ → List ℕ → List (List ℕ × List ℕ)
buffer_told id buffer = (codes "spawn_id", id) ∷ (codes "buffer", buffer) ∷ []

-- the bytes of a match, the id and the buffer
abbrev pub match_told : Found → List ℕ → List ℕ → List (List ℕ × List ℕ)
match_told f id buffer = (codes "0,string", drop f.start buffer) ∷ buffer_told id buffer

-- the places of a match, its bytes, the id and the buffer
abbrev pub places_told : Found → List ℕ → List ℕ → List (List ℕ × List ℕ)
places_told f id buffer =
    (codes "0,start", decimal f.start)
    ∷ (codes "0,end", signed_decimal (pos f.end -ℤ pos 1))
    ∷ match_told f id buffer
