-- What arrived at a match buffer and what was done to it, and the window that it has by that.
use Rattle.std.specs.Prelude.{◌≡◌, ℕ, ◌+◌, ◌-◌, ◌≤◌, Bool, true, ◌&&◌, nat_le, nat_lt, nat_eq}
use Rattle.std.specs.Prelude.{if◌then◌else◌, List, [], ◌∷◌, ◌++◌, length, map, filter, slice_index}
use Rattle.std.specs.List.{list_all, range_with_len}
use Rattle.matchbuf.specs.Held.{Held}

-- bytes arrived; all places below this one are consumed; the size was set; expect(1), match_max
pub data Record : Type 0 where
  Arrived : List ℕ → Record
  Consumed : ℕ → Record
  Sized : ℕ → Record

-- a journal lists its records, the newest first; its history is all the bytes that ever arrived,
-- the oldest first, and a byte's place is its index there (this project's own rule)
abbrev pub history : List Record → List ℕ
history [] = []
history (Arrived bytes ∷ journal) = history journal ++ bytes
history (Consumed place ∷ journal) = history journal
history (Sized size ∷ journal) = history journal

-- the size in force, which is the last that was set; expect(1), match_max
abbrev pub size_of : List Record → ℕ
size_of [] = 0
size_of (Arrived bytes ∷ journal) = size_of journal
size_of (Consumed place ∷ journal) = size_of journal
size_of (Sized size ∷ journal) = size

-- a journal begins with a size, and consumes no place that no byte has reached (this project's own
-- rule)
abbrev pub IsJournal : List Record → Type 0
IsJournal [] = ⊥
IsJournal (Arrived bytes ∷ journal) = IsJournal journal
IsJournal (Consumed place ∷ journal) = (place ≤ length (history journal)) × IsJournal journal
IsJournal (Sized size ∷ []) = Unit {0}
IsJournal (Sized size ∷ r ∷ journal) = IsJournal (r ∷ journal)

-- the moments of a journal: what it was after each of its records (this project's own rule)
abbrev pub moments : List Record → List (List Record)
moments [] = []
moments (r ∷ journal) = (r ∷ journal) ∷ moments journal

-- the record leaves the place unconsumed; expect(1), expect
abbrev pub spares : ℕ → Record → Bool
spares place (Arrived bytes) = true
spares place (Consumed first) = nat_le first place
spares place (Sized size) = true

-- the place is one of the last places at that moment, which are as many as the size; expect(1),
-- match_max
abbrev pub remembers : ℕ → List Record → Bool
remembers place moment = nat_le (length (history moment) - size_of moment) place

-- a byte has come to the place (this project's own rule)
abbrev pub has_come : List Record → ℕ → Bool
has_come journal place = nat_lt place (length (history journal))

-- no record consumed the place, and every moment remembers it (this project's own rule)
abbrev pub is_kept : List Record → ℕ → Bool
is_kept journal place =
    list_all (spares place) journal && list_all (remembers place) (moments journal)

-- a place is visible where a byte has come to it and it is kept (this project's own rule)
abbrev pub is_visible : List Record → ℕ → Bool
is_visible journal place = has_come journal place && is_kept journal place

-- the places of the history that are visible, in order (this project's own rule)
abbrev pub visible_places : List Record → List ℕ
visible_places journal =
    filter (is_visible journal) (range_with_len 0 (length (history journal)))

-- the window: the bytes at the visible places, in order; expect(1), expect and match_max
abbrev pub window : List Record → List ℕ
window journal = map (slice_index (history journal)) (visible_places journal)

-- the place just after the first n bytes of the window, 0 where n is 0 (this project's own rule)
abbrev pub place_after : List Record → ℕ → ℕ
place_after journal n =
    if nat_eq n 0 then 0 else slice_index (visible_places journal) (n - 1) + 1

-- a buffer is as the journal says: it holds the window, and has the last size
pub record Fits (journal : List Record) (buffer : Held) : Type 0 where
  pub is_journal : IsJournal journal
  pub bytes : window journal ≡ buffer.bytes
  pub max : size_of journal ≡ buffer.max
