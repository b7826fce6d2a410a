-- The lines of a story (this project's own).
use Rattle.std.specs.Prelude.{ℕ, ◌-◌, ◌==◌, ◌&&◌, max, List, [], ◌∷◌, ◌++◌, length, replicate, if◌then◌else◌}

-- the blanks after a text in a column of this width: two at least
abbrev pub gap : ℕ → List ℕ → List ℕ
gap width text = replicate (max (width - length text) 2) 32

-- what happened, and its detail in the next column where there is one
abbrev pub event_and : (event detail : List ℕ) → List ℕ
event_and event detail =
    if length detail == 0 then event else (event ++ (gap 32 event ++ detail))

-- a line: a place, what happened there in the next column, and a detail in the one after that; what
-- is wider than its column pushes the rest on, and nothing is written after the last text
abbrev pub line : (place event detail : List ℕ) → List ℕ
line place event detail =
    if (length event == 0) && (length detail == 0) then (place ++ 10 ∷ []) else
    (place ++ (gap 14 place ++ (event_and event detail ++ 10 ∷ [])))
