-- The words of a command that reads a setting of ids, or sets it.
use Rattle.std.specs.Prelude.{ℕ, Bool, true, false, List, [], ◌∷◌, codes, Option, Result, Ok}
use Rattle.state.specs.Prelude.{Flaw, bind}
use Rattle.kinds.specs.Usage.{after_flag, after_pair, at_most_one}

-- whose setting it is: that of later ids, or that of the id of a name, or else of the id in force
-- (expect(1), match_max and remove_nulls)
pub data Whose : Type 0 where
  Later : Whose
  Of : (name : Option (List ℕ)) → Whose

-- a setting that is read, or set to what a word says (expect(1), match_max and remove_nulls)
pub record Request : Type 0 where
  pub whose : Whose
  pub value : Option (List ℕ)

-- a request, put together from its parts
abbrev pub request_by : Whose → Option (List ℕ) → Request
request_by whose value = record { whose = whose; value = value }

-- whose setting it is; a name is not examined for the setting of later ids (expect(1), match_max)
abbrev pub whose_name : Bool → Option (List ℕ) → Whose
whose_name true name = Later
whose_name false name = Of name

-- the flags of the two commands (expect(1), match_max and remove_nulls)
abbrev pub flags : List (List ℕ)
flags = codes "-d" ∷ codes "-i" ∷ []

-- the value after the flags, if there is one (expect(1), match_max and remove_nulls)
abbrev pub by_value : List ℕ → Bool → Option (List ℕ) × List (List ℕ) → Result Request Flaw
by_value command later (name, words) =
    bind (at_most_one flags command words) (λ value.
    Ok (request_by (whose_name later name) value))

-- the id after the first flag, if one is named (expect(1), match_max and remove_nulls)
abbrev pub by_id : List ℕ → Bool × List (List ℕ) → Result Request Flaw
by_id command (later, words) = by_value command later (after_pair (codes "-i") words)

-- ?-d? ?-i id? ?value? (expect(1), match_max and remove_nulls)
abbrev pub request : List ℕ → List (List ℕ) → Result Request Flaw
request command args = by_id command (after_flag (codes "-d") args)
