-- What contracts see of the table of open ids.
use Rattle.std.specs.Prelude.{◌≡◌, ℕ, ◌+◌, ◌-◌, ◌/◌, ◌==◌, ◌^◌, not, nat_lt, nat_le, ◌<◌, Bool, List, [], ◌∷◌, ◌++◌, length, map, filter, drop, sum_by, Option, Some, None, if◌then◌else◌}
use Rattle.std.specs.Option.{option_map}
use Rattle.circular_buffer.specs.Buffer.{keep_last}
use Rattle.acts.specs.declared.id.Id.{Id}
use Rattle.acts.specs.declared.row.Row.{Row}
use Rattle.matchbuf.specs.Held.{Held, held}
use Rattle.choices.specs.Kinds.{Kind}

-- an open id: what it was opened for, what its match buffer holds, and whether nulls are removed
-- from what arrives (expect(1), spawn, match_max and remove_nulls)
pub record Line : Type 0 where
  pub id : Id
  pub kind : Kind
  pub held : Held
  pub drops_nulls : Bool

-- the open ids, in the order in which they were opened, and the number of the next one, where one
-- is left
pub record Listing : Type 0 where
  pub lines : List Line
  pub next : Option ℕ

-- each of these numbers is beyond that one
abbrev pub AllBeyond : ℕ → List ℕ → Type 0
AllBeyond n [] = Unit {0}
AllBeyond n (m ∷ ms) = (n < m) × AllBeyond n ms

-- the numbers rise
abbrev pub Rise : List ℕ → Type 0
Rise [] = Unit {0}
Rise (n ∷ ns) = AllBeyond n ns × Rise ns

-- the numbers of ids
abbrev pub numbers : List Line → List ℕ
numbers lines = map (λ l. l.id.0) lines

-- the open ids, in the order in which they were opened (this project's own)
abbrev pub open_ids : List Line → List Id
open_ids lines = map (λ l. l.id) lines

-- the next number, where one is left
abbrev pub upcoming : Option ℕ → List ℕ
upcoming None = []
upcoming (Some n) = n ∷ []

-- a table of these ids, whose next number is that one
abbrev pub listing : List Line → Option ℕ → Listing
listing lines next = record { lines = lines; next = next }

-- the line of an id, where the id is open
abbrev pub line_of : List Line → Id → Option Line
line_of [] i = None
line_of (l ∷ ls) i = if l.id.0 == i.0 then Some l else line_of ls i

-- the line of an id is changed, where the id is open
abbrev pub at_line : (Line → Line) → Id → List Line → List Line
at_line change i [] = []
at_line change i (l ∷ ls) = if l.id.0 == i.0 then change l ∷ ls else l ∷ at_line change i ls

-- the line of an id is taken out, where the id is open
abbrev pub without : Id → List Line → List Line
without i [] = []
without i (l ∷ ls) = if l.id.0 == i.0 then ls else l ∷ without i ls

-- the line of the id that was opened first is taken out, whose number is the least
pub record IsFirstOut (id : Id) (old new : List Line) : Type 0 where
  pub line : Line
  pub split : old ≡ line ∷ new
  pub same : line.id ≡ id
  pub least : AllBeyond line.id.0 (numbers new)

-- the lesser of two ids
abbrev pub lesser : Id → Id → Id
lesser i j = if nat_lt j.0 i.0 then j else i

-- the least of an id and those of lines
abbrev pub least_of : Id → List Line → Id
least_of i [] = i
least_of i (l ∷ ls) = least_of (lesser i l.id) ls

-- the least open id
abbrev pub first_id : List Line → Option Id
first_id [] = None
first_id (l ∷ ls) = Some (least_of l.id ls)

-- the id of a number
abbrev pub id_of : ℕ → Id
id_of n = record { 0 = n }

-- the next id, where fewer than 64 are open and a number is left (this project's own rule)
abbrev pub next_id : Listing → Option Id
next_id t = if nat_le 64 (length t.lines) then None else option_map id_of t.next

-- the number after a number, where 64 bits hold it (this project's own rule)
abbrev pub number_after : Option ℕ → Option ℕ
number_after None = None
number_after (Some n) = if nat_lt (n + 1) (2 ^ 64) then Some (n + 1) else None

-- the line of an id that is just opened for a process or a connection, with an empty buffer of that
-- size, and with whether nulls are removed (expect(1), spawn, match_max -d and remove_nulls -d)
abbrev pub fresh_line : Id → Kind → ℕ → Bool → Line
fresh_line i kind max drops =
    record { id = i; kind = kind; held = held [] max; drops_nulls = drops }

-- bytes without their nulls (expect(1), remove_nulls)
abbrev pub without_nulls : List ℕ → List ℕ
without_nulls bytes = filter (λ b. not (b == 0)) bytes

-- the bytes of an arrival that reach the buffer (expect(1), remove_nulls)
abbrev pub reaching : Bool → List ℕ → List ℕ
reaching drops bytes = if drops then without_nulls bytes else bytes

-- a line whose buffer holds that
abbrev pub holding : Held → Line → Line
holding h l = record l { held = h }

-- a line after an arrival: its buffer holds the last bytes, at most as many as its size
abbrev pub reached : List ℕ → Line → Line
reached bytes l =
    let max = l.held.max in
    holding (held (keep_last max (l.held.bytes ++ reaching l.drops_nulls bytes)) max) l

-- a line whose first n bytes are consumed (expect(1), expect)
abbrev pub shortened : ℕ → Line → Line
shortened n l = holding (held (drop n l.held.bytes) l.held.max) l

-- a line of another size (expect(1), match_max)
abbrev pub resized : ℕ → Line → Line
resized max l = holding (held (keep_last max l.held.bytes) max) l

-- a line from which nulls are removed from now on, or are not (expect(1), remove_nulls)
abbrev pub dropping : Bool → Line → Line
dropping drops l = record l { drops_nulls = drops }

-- how many bytes are wanted: the free room, or half of the size where there is none
-- (this project's own rule)
abbrev pub wanted : ℕ → ℕ → ℕ
wanted held max = if max - held == 0 then (max + 1) / 2 else max - held

-- what a wait reports about a line (this project's own rule)
abbrev pub row_of_line : Line → Row
row_of_line l = record {
  id = l.id;
  held = length l.held.bytes;
  max = l.held.max;
  want = wanted (length l.held.bytes) l.held.max;
}

-- a row before those of others, where its id is open
abbrev pub with_row : Option Line → List Row → List Row
with_row None rows = rows
with_row (Some l) rows = row_of_line l ∷ rows

-- what a wait reports about ids: one row for each that is open, in their order (this project's own
-- rule)
abbrev pub rows_of : List Line → List Id → List Row
rows_of lines [] = []
rows_of lines (i ∷ is) = with_row (line_of lines i) (rows_of lines is)

-- a row as a line says now, where the id is open
abbrev pub row_anew : Option Line → Row → Row
row_anew None row = row
row_anew (Some l) row = row_of_line l

-- rows as the table says now
abbrev pub rows_anew : List Line → List Row → List Row
rows_anew lines [] = []
rows_anew lines (r ∷ rs) = row_anew (line_of lines r.id) r ∷ rows_anew lines rs

-- how many bytes all buffers hold together
abbrev pub held_by : List Line → ℕ
held_by lines = sum_by (λ l. length l.held.bytes) lines

-- how many bytes all buffers may hold together (expect(1), match_max)
abbrev pub allowed_to : List Line → ℕ
allowed_to lines = sum_by (λ l. l.held.max) lines
