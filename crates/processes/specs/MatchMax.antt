-- What match_max does.
use Rattle.std.specs.Prelude.{ℕ, ◌&&◌, nat_le, Bool, ℤ, pos, negsuc, List, [], codes, decimal, Option, Some, None, option_map, Result, Ok, Err, if◌then◌else◌}
use Rattle.state.specs.Prelude.{Id, Flaw, bind, Status, lines}
use Rattle.acts.specs.Flaw as flaw
use Rattle.choices.specs.Lines.{line_of}
use Rattle.kinds.specs.Edits.{Sizes, SizesLater}
use Rattle.kinds.specs.Exchange.{Exchange, Edits, gives}
use Rattle.kinds.specs.Ids.{chosen_id}
use Rattle.kinds.specs.Words.{number}
use Rattle.matchbuf.specs.Size.{greatest_size}
use Rattle.processes.specs.Requests.{Whose, Later, Of, request}

-- the number is a size (expect(1), match_max; the greatest is this project's own)
abbrev pub is_size : ℕ → Bool
is_size n = nat_le 1 n && nat_le n greatest_size

-- the size that a whole number is (expect(1), match_max)
abbrev pub size_of : ℤ → Option ℕ
size_of (pos n) = if is_size n then Some n else None
size_of (negsuc n) = None

-- the size that a number is, or the error that it is none (expect(1), match_max)
abbrev pub sized_by : Option ℕ → Result ℕ Flaw
sized_by (Some bytes) = Ok bytes
sized_by None = Err flaw.BadSize

-- the size that a word says, where it is a number (expect(1), match_max)
abbrev pub size_said : List ℕ → Result ℕ Flaw
size_said word = bind (number word) (λ n. sized_by (size_of n))

-- how many bytes the buffer of an id may hold, where it is open (expect(1), match_max)
abbrev pub size_at : Id → Status → Option ℕ
size_at i s = option_map (λ l. l.held.max) (line_of (lines s) i)

-- the text that reports the size of an id's buffer (expect(1), match_max)
abbrev pub told : Option ℕ → List ℕ
told (Some bytes) = decimal bytes
told None = []

-- the size is given, or set as a word says: an id that is named is looked up before the word is
-- read, the id in force after that (expect(1), match_max)
abbrev pub asked : Whose → Option (List ℕ) → Status → Result (Exchange 0) Flaw
asked Later None s = Ok (gives (decimal s.ids.size))
asked Later (Some w) s = bind (size_said w) (λ n. Ok (Edits (SizesLater n) (gives [])))
asked (Of name) None s = bind (chosen_id name s) (λ i. Ok (gives (told (size_at i s))))
asked (Of (Some name)) (Some w) s =
    bind (chosen_id (Some name) s) (λ i.
    bind (size_said w) (λ n. Ok (Edits (Sizes i n) (gives []))))
asked (Of None) (Some w) s =
    bind (size_said w) (λ n.
    bind (chosen_id None s) (λ i. Ok (Edits (Sizes i n) (gives []))))

-- match_max ?-d? ?-i id? ?size? (expect(1), match_max)
abbrev pub match_max : List (List ℕ) → Status → Result (Exchange 0) Flaw
match_max args s = bind (request (codes "match_max") args) (λ r. asked r.whose r.value s)
