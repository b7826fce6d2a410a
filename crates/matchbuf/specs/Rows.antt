-- The definition of a window at worked rows.
use Rattle.std.specs.Prelude.{◌≡◌, [], ◌∷◌, codes}
use Rattle.matchbuf.specs.Journal.{Arrived, Consumed, Sized, window, place_after}

-- a size of 3, an arrival that is too long, a byte consumed, another arrival, a larger size, an
-- arrival that fills it, a smaller size
abbrev pub WorkedRows : Type 0
WorkedRows =
    let made = Sized 3 ∷ [] in
    let filled = Arrived (codes "abcd") ∷ made in
    let consumed = Consumed 2 ∷ filled in
    let again = Arrived (codes "efgh") ∷ consumed in
    let larger = Sized 5 ∷ again in
    let full = Arrived (codes "ij") ∷ larger in
    let smaller = Sized 2 ∷ full in
    (window made ≡ []) × (window filled ≡ codes "bcd") × (place_after filled 1 ≡ 2)
    × (window consumed ≡ codes "cd") × (window again ≡ codes "fgh") × (window larger ≡ codes "fgh")
    × (window full ≡ codes "fghij") × (window smaller ≡ codes "ij")
