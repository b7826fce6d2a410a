-- What close does.
use Rattle.std.specs.Prelude.{ℕ, List, [], ◌∷◌, codes, Option, Some, None, Result, Ok}
use Rattle.state.specs.Prelude.{Id, Deed, Reply, Flaw, bind, Course, Status}
use Rattle.acts.specs.Deed as said
use Rattle.kinds.specs.Edits.{Shuts}
use Rattle.kinds.specs.Exchange.{Exchange, Edits, Performs, gives, course}
use Rattle.kinds.specs.Ids.{connection_id, current_id, named_id}
use Rattle.kinds.specs.Usage.{after_pair, at_most_one, no_more}
use Rattle.processes.specs.declared.close.Waits.{Waits}

-- the id is closed, and its standing pairs are gone (expect(1), close)
abbrev pub over : Id → Exchange 3
over i = Edits (Shuts i) (gives [])

-- an open id is closed (expect(1), close)
abbrev pub closes : Id → Exchange 4
closes i = Performs (said.Close i) tt (λ s reply. over i)

-- the flags of close (expect(1), close)
abbrev pub flags : List (List ℕ)
flags = codes "-i" ∷ []

-- the open id of a name, where no word stands after it (expect(1), close)
abbrev pub by_name : List ℕ → List (List ℕ) → Status → Result Id Flaw
by_name name words s = bind (no_more flags (codes "close") words) (λ _. named_id name s)

-- the open connection of a channel, where one is named, or else the id in force (expect(1), close;
-- close(n))
abbrev pub channel_or_current : Option (List ℕ) → Status → Result Id Flaw
channel_or_current (Some channel) s = connection_id channel s
channel_or_current None s = current_id s

-- a word alone is a channel, whose connection is closed (close(n))
abbrev pub by_channel : List (List ℕ) → Status → Result Id Flaw
by_channel words s =
    bind (at_most_one flags (codes "close") words) (λ channel. channel_or_current channel s)

-- the open id that a name or a channel says (expect(1), close; close(n))
abbrev pub by_words : Option (List ℕ) × List (List ℕ) → Status → Result Id Flaw
by_words (Some name, words) s = by_name name words s
by_words (None, words) s = by_channel words s

-- the open id that the words are about (expect(1), close; close(n))
abbrev pub id_said : List (List ℕ) → Status → Result Id Flaw
id_said args s = by_words (after_pair (codes "-i") args) s

-- close ?-i id?, close channel (expect(1), close; close(n))
abbrev pub close : List (List ℕ) → Status → Result (Exchange 4) Flaw
close args s = bind (id_said args s) (λ i. Ok (closes i))

-- what follows the answer to the act of close (expect(1), close)
abbrev pub follows : Waits → Exchange 3
follows waits = over waits.id

-- the same, as a part of a run
abbrev pub next_of : Waits → Deed → Status → Reply → Course
next_of waits deed s reply = course (follows waits) s
