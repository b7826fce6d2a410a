-- What follows from the definition of a window.
use Rattle.std.specs.Prelude.{◌≡◌, ℕ, ◌+◌, ◌<◌, ◌≤◌, ◌↔◌, List, [], ◌∷◌, ◌++◌, length, drop, IsTrue}
use Rattle.circular_buffer.specs.Buffer.{keep_last}
use Rattle.matchbuf.specs.Held.{Held}
use Rattle.matchbuf.specs.Journal.{Record, Arrived, Consumed, Sized, history, size_of, IsJournal}
use Rattle.matchbuf.specs.Journal.{is_visible, window, place_after, Fits}

-- an arrival is added at the end, and what is then too old is forgotten
abbrev pub ArrivalsJoin : Type 0
ArrivalsJoin = (j : List Record) (bytes : List ℕ) → IsJournal j
    → window (Arrived bytes ∷ j) ≡ keep_last (size_of j) (window j ++ bytes)

-- consuming n bytes takes the first n from the window
abbrev pub ConsumptionsTake : Type 0
ConsumptionsTake = (j : List Record) (n : ℕ) → IsJournal j → n ≤ length (window j)
    → window (Consumed (place_after j n) ∷ j) ≡ drop n (window j)

-- to set a size keeps the newest bytes of the window, and brings none back
abbrev pub SizesKeep : Type 0
SizesKeep = (j : List Record) (size : ℕ) → IsJournal j
    → window (Sized size ∷ j) ≡ keep_last size (window j)

-- the window is the end of the history, and no longer than the size
abbrev pub WindowsEnd : Type 0
WindowsEnd = (j : List Record) → IsJournal j
    → (window j ≡ keep_last (length (window j)) (history j)) × (length (window j) ≤ size_of j)

-- a window is no longer than the size, whatever the records; expect(1), match_max
abbrev pub WindowsHold : Type 0
WindowsHold = (j : List Record) → length (window j) ≤ size_of j

-- a place is visible exactly where it lies in the end of the history that is the window
abbrev pub VisibleAtEnd : Type 0
VisibleAtEnd = (j : List Record) (place : ℕ) → IsJournal j
    → IsTrue (is_visible j place)
    ↔ ((place < length (history j)) × (length (history j) ≤ place + length (window j)))

-- a place that a byte has come to and that is not visible is never visible again
abbrev pub GoneForGood : Type 0
GoneForGood = (j : List Record) (r : Record) (place : ℕ) → place < length (history j)
    → IsTrue (is_visible (r ∷ j) place) → IsTrue (is_visible j place)

-- the size of a buffer and then its bytes are a journal that fits it
abbrev pub ShortJournals : Type 0
ShortJournals = (buffer : Held) → length buffer.bytes ≤ buffer.max
    → Fits (Arrived buffer.bytes ∷ Sized buffer.max ∷ []) buffer
