-- Files that a call of the program can't have.
use Rattle.std.specs.Prelude.{◌≡◌, ◌≢◌, ◌⊎◌, ℕ, Bool, true, false, List, [], ◌∷◌, Option, Some, None, Result, Ok, Err, codes}
use Rattle.std.specs.Str.{IsUtf8}
use Rattle.std.specs.declared.io.Error.{Error}
use Rattle.worlds.specs.Reads.{GivesUp}

-- `opens` says what the system may answer where the file of a name is to be read, and `reads`
-- whether a read may give an answer and lead from one state of the file to another.
module _ {F : Type 0} (opens : List ℕ → Result F Error → Type 0)
    (reads : F → Result ℕ Error → F → Type 0) where
  -- the file of this name is not read: the system takes no such name, or refused to open it, or
  -- the reading of it was given up (open(2), read(2))
  abbrev pub IsUnread : List ℕ → Type 0
  IsUnread name =
      (¬ (IsUtf8 name)) ⊎ (((error : Error) × opens name (Err error))
      ⊎ ((file : F) × (after : F) × opens name (Ok file) × GivesUp reads file after))

  -- the same of a script, which may be standard input (this project's own)
  abbrev pub IsUnreadScript : {I : Type 0} → (I → Result ℕ Error → I → Type 0) → List ℕ → Type 0
  IsUnreadScript {I} takes name =
      IsUnread name ⊎ ((name ≡ codes "-") × ((input : I) × (after : I) × GivesUp takes input after))

-- `makes` says what the system may answer where the file of a name is to be made, and `same` what
-- it may answer where it is asked whether two names are those of one file.
module _ {M : Type 0} (makes : List ℕ → Result M Error → Type 0)
    (same : List ℕ → List ℕ → Bool → Type 0) where
  -- the file of this name is not made: the system takes no such name, or refused to make it, or it
  -- is a file that the call reads (open(2))
  abbrev pub IsUnmade : List ℕ → Type 0
  IsUnmade name =
      (¬ (IsUtf8 name)) ⊎ (((error : Error) × makes name (Err error))
      ⊎ ((read : List ℕ) × same read name true))

-- `same` as above: the file of this name is none that the call reads, neither that of its script,
-- which may be standard input, nor its record (this project's own)
abbrev pub IsOtherScript : (same : List ℕ → List ℕ → Bool → Type 0) → (script : List (List ℕ)) →
    List ℕ → Type 0
IsOtherScript same [] name = Unit {0}
IsOtherScript same (read ∷ args) name = read ≢ codes "-" → same read name false

abbrev pub IsOtherRecord : (same : List ℕ → List ℕ → Bool → Type 0) → Option (List ℕ) → List ℕ →
    Type 0
IsOtherRecord same None name = Unit {0}
IsOtherRecord same (Some read) name = same read name false

abbrev pub IsOther : (same : List ℕ → List ℕ → Bool → Type 0) → (script : List (List ℕ)) →
    (replay : Option (List ℕ)) → List ℕ → Type 0
IsOther same script replay name = IsOtherScript same script name × IsOtherRecord same replay name
