-- Which pair an expect chooses, and what its choice takes.
use Rattle.std.specs.Prelude.{◌≡◌, ◌⊎◌, ℕ, ◌==◌, ◌&&◌, Bool, true, false, IsTrue, List, [], ◌∷◌, length, take, Option, Some, None, is_some, if◌then◌else◌}
use Rattle.acts.specs.declared.id.Id.{Id}
use Rattle.patterns.specs.Match.{IsFound}
use Rattle.patterns.specs.declared.search.Found.{Found}
use Rattle.choices.specs.Branches.{Awaited, Pair, Sought, FullBuffer, Eof, Timeout, Default}
use Rattle.choices.specs.Lines.{Line, line_of, at_line, shortened}
use Rattle.matchbuf.specs.Journal.{window}
use Rattle.choices.specs.Peers.{Peer, at_peer, consumed}
use Rattle.choices.specs.declared.choice.Trigger.{Trigger}
use Rattle.choices.specs.declared.choice.Trigger.TheVariants.{Entry, Arrival, End, TimedOut}

-- patterns and full buffers are looked for on entry in all windows, and after an arrival in the
-- window of its id (expect(1), expect; on entry this project's own rule)
abbrev pub looks_at : Trigger → Pair → Bool
looks_at Entry p = true
looks_at (Arrival i) p = p.id.0 == i.0
looks_at (End i) p = false
looks_at TimedOut p = false

-- the branch waits for a full buffer (expect(1), full_buffer)
abbrev pub takes_full : Awaited → Bool
takes_full FullBuffer = true
takes_full _ = false

-- the branch waits for an end (expect(1), eof and default)
abbrev pub takes_end : Awaited → Bool
takes_end Eof = true
takes_end Default = true
takes_end _ = false

-- the branch waits for a timeout (expect(1), timeout and default)
abbrev pub takes_timeout : Awaited → Bool
takes_timeout Timeout = true
takes_timeout Default = true
takes_timeout _ = false

-- the id is open, and its buffer holds as many bytes as it may (expect(1), full_buffer)
abbrev pub is_full : Option Line → Bool
is_full None = false
is_full (Some l) = length l.held.bytes == l.held.max

-- the pair waits for a full buffer, and that of its id is full (expect(1), full_buffer)
abbrev pub is_filled : List Line → Pair → Bool
is_filled lines p = takes_full p.branch.awaited && is_full (line_of lines p.id)

-- what the pair's keyword names has come: a full buffer, the end of its open id, the timeout of any
-- id (expect(1), expect)
abbrev pub is_met : List Line → Trigger → Pair → Bool
is_met lines Entry p = is_filled lines p
is_met lines (Arrival i) p = (p.id.0 == i.0) && is_filled lines p
is_met lines (End i) p =
    (p.id.0 == i.0) && (takes_end p.branch.awaited && is_some (line_of lines i))
is_met lines TimedOut p = takes_timeout p.branch.awaited

-- the pattern is found there in the window of an open id (expect(1), expect)
abbrev pub FindsIn : Awaited → Option Line → Found → Type 0
FindsIn (Sought pattern) (Some l) f = IsFound pattern l.held.bytes f.start f.end
FindsIn _ _ f = ⊥

-- the pair's pattern is looked for, and is found there in the window of its id
pub record Finds (lines : List Line) (t : Trigger) (p : Pair) (f : Found) : Type 0 where
  pub looks : IsTrue (looks_at t p)
  pub finds : FindsIn p.branch.awaited (line_of lines p.id) f

-- the pair's pattern is looked for, and is found somewhere in the window of its id
abbrev pub IsFoundFor : List Line → Trigger → Pair → Type 0
IsFoundFor lines t p = (f : Found) × Finds lines t p f

-- what the pair's keyword names has come
abbrev pub IsMet : List Line → Trigger → Pair → Type 0
IsMet lines t p = IsTrue (is_met lines t p)

-- it is the first of the pairs that has the property
abbrev pub IsFirst : (Pair → Type 0) → List Pair → Pair → Type 0
IsFirst Has [] p = ⊥
IsFirst Has (q ∷ qs) p = ((p ≡ q) × Has q) ⊎ ((¬ Has q) × IsFirst Has qs p)

-- none of the pairs has the property
abbrev pub IsNone : (Pair → Type 0) → List Pair → Type 0
IsNone Has [] = Unit {0}
IsNone Has (q ∷ qs) = (¬ Has q) × IsNone Has qs

-- a pair that is chosen, and where its pattern was found, where it is chosen for its pattern
pub record Chosen : Type 0 where
  pub pair : Pair
  pub found : Option Found

-- a pair that is chosen for its pattern, which is found there, or for its keyword
abbrev pub chosen : Pair → Option Found → Chosen
chosen p f = record { pair = p; found = f }

-- the pair is the first whose pattern is found, and it is found there; or no pattern is found, and
-- the pair is the first whose keyword has come (expect(1), expect; that a full buffer comes after
-- all patterns is this project's own rule)
abbrev pub IsChosen : List Line → Trigger → List Pair → Pair → Option Found → Type 0
IsChosen lines t pairs p (Some f) = IsFirst (IsFoundFor lines t) pairs p × Finds lines t p f
IsChosen lines t pairs p None =
    IsNone (IsFoundFor lines t) pairs × IsFirst (IsMet lines t) pairs p

-- which pair is chosen, if any; none where no pattern is found and no keyword has come
abbrev pub Chooses : List Line → Trigger → List Pair → Option Chosen → Type 0
Chooses lines t pairs (Some c) = IsChosen lines t pairs c.pair c.found
Chooses lines t pairs None = IsNone (IsFoundFor lines t) pairs × IsNone (IsMet lines t) pairs

-- how much of its window a choice consumes: nothing, a number of its first bytes, or all of it
pub data Share : Type 0 where
  Nothing : Share
  Front : ℕ → Share
  Whole : Share

-- a pattern consumes the match and all before it, unless they stay; a keyword all of the window,
-- whatever its flags (expect(1), -notransfer; of a keyword this project's own rule)
abbrev pub share_by : Bool → Option Found → Share
share_by stays (Some f) = if stays then Nothing else Front f.end
share_by stays None = Whole

-- how much a chosen pair consumes of its window
abbrev pub share_at : Chosen → Share
share_at c = share_by c.pair.branch.flags.stays c.found

-- a timeout takes nothing of a window, every other trigger does (expect(1), expect)
abbrev pub takes : Trigger → Bool
takes TimedOut = false
takes _ = true

-- how much is consumed by a choice after a trigger
abbrev pub share_of : Trigger → Chosen → Share
share_of t c = if takes t then share_at c else Nothing

-- an open id whose window is consumed to that share (expect(1), expect)
abbrev pub consumed_to : Share → Peer → Peer
consumed_to Nothing p = p
consumed_to (Front n) p = consumed n p
consumed_to Whole p = consumed (length (window p.journal)) p

-- the same of a line
abbrev pub shortened_to : Share → Line → Line
shortened_to Nothing l = l
shortened_to (Front n) l = shortened n l
shortened_to Whole l = shortened (length l.held.bytes) l

-- the ids of the definition after a choice
abbrev pub peers_after : Trigger → Chosen → List Peer → List Peer
peers_after t c ps = at_peer (consumed_to (share_of t c)) c.pair.id ps

-- the lines of the table after a choice
abbrev pub lines_after : Trigger → Chosen → List Line → List Line
lines_after t c ls = at_line (shortened_to (share_of t c)) c.pair.id ls

-- what a choice has for the variable expect_out: the id, the match and all before it or the whole
-- window, where the pattern was found, whether its places are reported (expect(1), expect_out)
pub record Taken : Type 0 where
  pub id : Id
  pub buffer : List ℕ
  pub found : Option Found
  pub tells_places : Bool

-- the bytes of a window that a choice hands out: up to the end of the match, or all
abbrev pub front_of : Option Found → List ℕ → List ℕ
front_of (Some f) w = take f.end w
front_of None w = w

-- what a choice at that line has for expect_out
abbrev pub taken_at : Chosen → Option Line → Option Taken
taken_at c None = None
taken_at c (Some l) = Some (record {
  id = c.pair.id;
  buffer = front_of c.found l.held.bytes;
  found = c.found;
  tells_places = c.pair.branch.flags.tells_places;
})

-- what a choice after a trigger has for expect_out
abbrev pub taken_of : List Line → Trigger → Chosen → Option Taken
taken_of lines t c = if takes t then taken_at c (line_of lines c.pair.id) else None
