-- The rows of waits in records: what a wait says of the buffers of its ids (this project's own
-- format).
use Rattle.std.specs.Prelude.{◌≡◌, ◌+◌, ◌-◌, ◌/◌, ◌^◌, ◌<◌, ◌≤◌, ◌==◌, ℕ, if◌then◌else◌, List, [], ◌∷◌, ◌++◌, codes, decimal}
use Rattle.std.specs.List.{AllByRecursion}
use Rattle.acts.specs.declared.row.Row.{Row}
use Rattle.acts.specs.Id.{id_text}
use Rattle.lines.specs.Line.{newline}

-- the greatest size of a buffer (expect(1), match_max; the number is this project's own)
abbrev pub greatest_size : ℕ
greatest_size = 1000000

-- how many bytes are wanted: the free room, or half of the size where there is none
abbrev pub wanted : ℕ → ℕ → ℕ
wanted held max = if max - held == 0 then (max + 1) / 2 else max - held

-- a row that has a text: its buffer holds at most its size, and `want` follows from the two
abbrev pub IsRow : Row → Type 0
IsRow row =
    (row.id.0 < 2 ^ 64) × (1 ≤ row.max) × (row.max ≤ greatest_size) × (row.held ≤ row.max)
    × (row.want ≡ wanted row.held row.max)

-- the id, how many bytes its buffer holds and how many it may hold, as in exp4:0:2000
abbrev pub row_text : Row → List ℕ
row_text row =
    id_text row.id.0 ++ (codes ":" ++ (decimal row.held ++ (codes ":" ++ decimal row.max)))

-- each row after a blank
abbrev pub rows_text : List Row → List ℕ
rows_text [] = []
rows_text (row ∷ rows) = codes " " ++ (row_text row ++ rows_text rows)

-- a text that spells these rows
abbrev pub AreRows : List Row → List ℕ → Type 0
AreRows rows text = AllByRecursion IsRow rows × (text ≡ rows_text rows)

-- the line of a wait for these rows, without its newline
abbrev pub IsWait : List Row → List ℕ → Type 0
IsWait rows line = AllByRecursion IsRow rows × (line ≡ codes "wait" ++ rows_text rows)

-- a text that begins with the line of a wait and its newline
abbrev pub BeginsWithWait : List ℕ → Type 0
BeginsWithWait text =
    (rows : List Row) × (line rest : List ℕ) × IsWait rows line × (text ≡ line ++ newline ∷ rest)
