-- In which order the rows of a wait have their turns.
use Rattle.std.specs.Prelude.{◌≡◌, ◌==◌, ◌++◌, ◌+◌, ℕ, true, List, [], ◌∷◌, Option, Some, None, drop, take, ⊤}
use Rattle.std.specs.List.{position}
use Rattle.acts.specs.declared.id.Id.{Id}
use Rattle.acts.specs.declared.row.Row.{Row}
use Rattle.acts.specs.Deed.{Reply}
use Rattle.acts.specs.Deed as said
use Rattle.live.specs.Arriving.{Sees, is_of}
use Rattle.live.specs.Calls.{Call, Made}

-- the place behind another one, and the first place where there is none
abbrev pub behind : Option ℕ → ℕ
behind None = 0
behind (Some place) = place + 1

-- whose turn is first: that of the row behind the one of the id that was answered last
abbrev pub turn_of : List Row → (last : Option Id) → ℕ
turn_of rows None = 0
turn_of rows (Some last) = behind (position (λ row. row.id.0 == last.0) rows)

-- the rows in the order of their turns, so that the id that was answered last comes last (this
-- project's own)
abbrev pub in_turn : List Row → (last : Option Id) → List Row
in_turn rows last = drop (turn_of rows last) rows ++ take (turn_of rows last) rows

-- the id that was answered last, once this is answered
abbrev pub last_of : Option Reply → (earlier : Option Id) → Option Id
last_of (Some (said.Arrive id bytes)) earlier = Some id
last_of (Some (said.Ended id)) earlier = Some id
last_of _ earlier = earlier

-- one of these rows is answered, and each of those before it was silent when it was looked at just
-- before: no id that has something to say is passed over (this project's own)
abbrev pub IsFirst : {S : Type 0} → (S → Call → S → Type 0) → S → (ids : List Id) → List Row →
    (kept : Id → List ℕ) → Reply → (left : Id → List ℕ) → S → Type 0
IsFirst {S} step before ids rows kept reply left after =
    (front : List Row) × (row : Row) × (rest : List Row) × (rows ≡ front ++ row ∷ rest)
    × (is_of row reply ≡ true)
    × ((mid : S) × (held : Id → List ℕ) × Sees step before ids front kept None held mid
    × Sees step mid ids (row ∷ []) held (Some reply) left after)

-- this holds where an id is answered
abbrev pub IfHeard : Reply → Type 0 → Type 0
IfHeard (said.Arrive id bytes) P = P
IfHeard (said.Ended id) P = P
IfHeard _ P = ⊤

-- a wait answers the first row in turn that was not silent in its last look, which some calls led
-- to, and then the turn is that of the row behind it (this project's own)
pub record KeepsTurns {S : Type 0} (step : S → Call → S → Type 0) (before : S) (ids : List Id)
    (rows : List Row) (earlier last : Option Id) (reply : Reply) (left : Id → List ℕ) (after : S) :
    Type 0 where
  pub first : IfHeard reply ((calls : List Call) × (mid : S) × Made step before calls mid
      × ((kept : Id → List ℕ) × IsFirst step mid ids (in_turn rows earlier) kept reply left after))
  pub next : last ≡ last_of (Some reply) earlier
