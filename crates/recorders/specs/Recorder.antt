-- What a recorder writes of acts with their answers (this project's own rule).
use Rattle.std.specs.Prelude.{◌≡◌, ◌^◌, ◌==◌, ◌&&◌, nat_lt, nat_le, ℕ, Bool, false, if◌then◌else◌, List, [], ◌∷◌, ◌++◌, Option, Some, None, MatchOption}
use Rattle.std.specs.List.{list_all}
use Rattle.acts.specs.declared.row.Row.{Row}
use Rattle.acts.specs.Deed.{Deed, Reply}
use Rattle.acts.specs.Deed as said
use Rattle.acts.specs.History.{History}
use Rattle.lines.specs.Rows.{greatest_size, wanted}
use Rattle.records.specs.Entry.{AreNotes, Note, second_header}
use Rattle.records.specs.Sink.{Takes}

-- whether a record can state a row: its sizes are in range, and `want` follows from them
abbrev pub is_row : Row → Bool
is_row row =
    nat_lt row.id.0 (2 ^ 64)
    && (nat_le 1 row.max
    && (nat_le row.max greatest_size
    && (nat_le row.held row.max && row.want == wanted row.held row.max)))

-- the rows of a wait, where a record can state each of them
abbrev pub told_rows : List Row → Option (List Row)
told_rows rows = if list_all is_row rows then Some rows else None

-- the rows that a record states for an act: only a wait has some
abbrev pub rows_of : Deed → Option (List Row)
rows_of (said.Wait rows timer) = told_rows rows
rows_of _ = None

-- the entry of an act with its answer; `NoMore` has none
abbrev pub entry_of : Deed → Reply → List Note
entry_of act said.NoMore = []
entry_of act reply = record { rows = rows_of act; reply = reply } ∷ []

-- the entries of a history
abbrev pub entries_of : History → List Note
entries_of [] = []
entries_of (pair ∷ h) = entry_of pair.0 pair.1 ++ entries_of h

-- `adds` says whether a put may lead from one state of a sink to another and add these bytes,
-- `failed` whether a sink has failed.
module _ {S : Type 0} (adds : S → List ℕ → S → Type 0) (failed : S → Bool) where
  -- a sink takes the lines of an act with its answer
  abbrev pub TakesEntry : S → Deed → Reply → S → Type 0
  TakesEntry before act reply after =
      (lines : List ℕ) × AreNotes (entry_of act reply) lines × Takes adds failed before lines after

  -- the same where a record is made; where none is, there is no sink before or after
  abbrev pub Notes : Option S → Deed → Reply → Option S → Type 0
  Notes before act reply after =
      MatchOption before (after ≡ None)
      (λ sink. (left : S) × (after ≡ Some left) × TakesEntry sink act reply left)

  -- a record begins with its header, where one is made
  abbrev pub Begins : Option S → Option S → Type 0
  Begins before after =
      MatchOption before (after ≡ None)
      (λ sink. (begun : S) × (after ≡ Some begun) × Takes adds failed sink second_header begun)

-- a record was to be made, and its sink has failed
abbrev pub is_lost : {S : Type 0} → (S → Bool) → Option S → Bool
is_lost failed None = false
is_lost failed (Some sink) = failed sink

-- `step` says whether a world may go from one state to another by an act with an answer.
module _ {W S : Type 0} (step : W → Deed → Reply → W → Type 0) (adds : S → List ℕ → S → Type 0)
    (failed : S → Bool) where
  -- a step of a recorder: the world makes it, and the sink takes the lines
  abbrev pub Records : W × S → Deed → Reply → W × S → Type 0
  Records before act reply after =
      step before.0 act reply after.0 × TakesEntry adds failed before.1 act reply after.1

  -- the same where a record is made; where none is, a step of the world alone
  abbrev pub MayRecord : W × Option S → Deed → Reply → W × Option S → Type 0
  MayRecord before act reply after =
      step before.0 act reply after.0 × Notes adds failed before.1 act reply after.1
