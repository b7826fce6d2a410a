-- What a call of the program does (this project's own).
use Rattle.std.specs.Prelude.{◌≡◌, ◌⊎◌, ◌++◌, ℕ, Bool, false, List, [], ◌∷◌, Option, Some, None, Result, Ok, Vec, codes}
use Rattle.std.specs.declared.io.Error.{Error}
use Rattle.std.specs.Borrow.{Bor}
use Rattle.memory.specs.declared.NoMemory.{NoMemory as Refusal}
use Rattle.acts.specs.History.{History}
use Rattle.worlds.specs.declared.input.Unread.{Unread}
use Rattle.worlds.specs.declared.input.Unread.TheVariants as unread
use Rattle.worlds.specs.declared.status.Outcome.{Outcome}
use Rattle.worlds.specs.declared.status.Outcome.TheVariants.{NoMemory}
use Rattle.arguments.specs.Arguments.{Call, lines, texts}
use Rattle.records.specs.Entry.{AreEntries, Note}
use Rattle.worlds.specs.Lacking.{IsUnmade, IsUnread, IsUnreadScript}
use Rattle.worlds.specs.Lived.{Lived}
use Rattle.replays.specs.Reel.{Reeled}
use Rattle.worlds.specs.Play.{Declines, Plays, PlaysOn, Refuses}
use Rattle.worlds.specs.RecordSource.{Gives, GivesUpIn, IsReelOf}
use Rattle.worlds.specs.declared.record_source.FileSource.{FileSource}
use Rattle.worlds.specs.Status.{file_outcome}
use Rattle.worlds.specs.Texts.{IsFirst, IsScriptOf, IsTextOf}

-- how a call ends that gets no memory, or that does not get the file whose name comes first, which
-- is missing then
abbrev pub IsLack : (missing : List ℕ → Type 0) → List (List ℕ) → Outcome → Type 0
IsLack missing [] outcome = (refusal : Refusal) × (outcome ≡ NoMemory refusal)
IsLack missing (name ∷ others) outcome =
    (lent : Bor (List ℕ)) × (lent.now ≡ name) × (fault : Unread)
    × (outcome ≡ file_outcome lent fault) × (fault ≡ unread.Refused → missing name)

-- the name of a script and its arguments: without a file the name is the program's
abbrev pub argv_of : List (List ℕ) → List (List ℕ)
argv_of [] = codes "rx" ∷ []
argv_of (name ∷ args) = name ∷ args

-- the text that a call runs: that of `-c`, and after it that of the script's file, if there is one;
-- `is_of` says whether a text is that of the script of a name
abbrev pub IsText : (is_of : (name text : List ℕ) → Type 0) → Call → List ℕ → Type 0
IsText is_of call text =
    (file : List ℕ) × IsFirst is_of call.script file × (text ≡ lines call.commands ++ file)

-- how a call ends that does not get the file of the record that it is to make
abbrev pub LacksFile : (missing : List ℕ → Type 0) → Option (List ℕ) → Outcome → Type 0
LacksFile missing None outcome = ⊥
LacksFile missing (Some name) outcome = IsLack missing (name ∷ []) outcome

-- the file of the record that a call makes was made under its name, where it makes one; `makes`
-- says what the system may answer where the file of a name is to be made
abbrev pub IsMade : {M : Type 0} → (makes : List ℕ → Result M Error → Type 0) →
    Option (List ℕ) → Type 0
IsMade makes None = Unit {0}
IsMade {M} makes (Some name) = (file : M) × makes name (Ok file)

-- a record may be lost where one is made
abbrev pub MayBeLost : Option (List ℕ) → Bool → Type 0
MayBeLost None lost = lost ≡ false
MayBeLost (Some name) lost = Unit {0}

-- `opens` and `makes` say what the system may answer where the file of a name is to be read or
-- made, `left` and `rest` which bytes a file or standard input has left to read, `reads` and
-- `takes` whether a read from it may give an answer and lead from one state to another, and `same`
-- what it may answer where it is asked whether two names are those of one file; `out` and `err` say
-- whether a write may lead from one state of a writer to another and add these bytes, `out_failed`
-- and `err_failed` whether the writer has failed; `heard` says whether acts and answers may be what
-- who watches was told.
module _ {F I M : Type 0} (opens : List ℕ → Result F Error → Type 0)
    (left : F → Option (List ℕ)) (reads : F → Result ℕ Error → F → Type 0)
    (rest : I → Option (List ℕ)) (takes : I → Result ℕ Error → I → Type 0)
    (makes : List ℕ → Result M Error → Type 0) (same : List ℕ → List ℕ → Bool → Type 0)
    {O E : Type 0} (out : O → List ℕ → O → Type 0) (out_failed : O → Bool)
    (err : E → List ℕ → E → Type 0) (err_failed : E → Bool) (heard : History → Type 0) where
  -- nothing runs, and who watches was told nothing: the call ends so
  abbrev pub EndsUnrun : Outcome → O × E → O × E → ℕ → Type 0
  EndsUnrun outcome before after status =
      heard [] × Declines out out_failed err err_failed outcome before after status

  -- nothing runs, since memory or the file whose name comes first is lacking
  abbrev pub Lacks : (missing : List ℕ → Type 0) → List (List ℕ) → O × E → O × E → ℕ → Type 0
  Lacks missing names before after status =
      (outcome : Outcome) × IsLack missing names outcome × EndsUnrun outcome before after status

  -- nothing runs, since the file of the record that is to be made can't be had
  abbrev pub LacksRecord : Option (List ℕ) → O × E → O × E → ℕ → Type 0
  LacksRecord made before after status =
      (outcome : Outcome) × LacksFile (IsUnmade makes same) made outcome
      × EndsUnrun outcome before after status

  module _ {A : Type 0} (script : List ℕ) (args : List (Vec ℕ A)) (ticks : ℕ) where
    -- the file of the record that is to be made can't be had, or the script runs so, where that
    -- record may be lost
    abbrev pub RunsSo : (runs : Bool → O × E → O × E → ℕ → Type 0) → Option (List ℕ) →
        O × E → O × E → ℕ → Type 0
    RunsSo runs made before after status =
        LacksRecord made before after status
        ⊎ (IsMade makes made × (lost : Bool) × MayBeLost made lost × runs lost before after status)

    -- the script runs in the live world
    abbrev pub RunsLive : Option (List ℕ) → O × E → O × E → ℕ → Type 0
    RunsLive = RunsSo (Lived out out_failed err err_failed heard script args ticks)

    -- the script runs under these entries
    abbrev pub RunsUnder : Option (List ℕ) → List Note → O × E → O × E → ℕ → Type 0
    RunsUnder made entries =
        RunsSo (λ lost. Plays out out_failed err err_failed heard script args ticks lost entries)
        made

    -- the script runs under what is read of the record of this name as the run goes on
    abbrev pub RunsOn : Bor (List ℕ) → Option (List ℕ) → Reeled (FileSource F) → O × E → O × E →
        ℕ → Type 0
    RunsOn name made reeled =
        RunsSo (λ lost. PlaysOn out out_failed err err_failed heard script args ticks
        (Gives left) (GivesUpIn reads) (λ source. source.left) name lost reeled) made

    -- the text of the record of this name is refused, or the script runs under its entries
    abbrev pub RunsRecord : Bor (List ℕ) → Option (List ℕ) → List ℕ → O × E → O × E → ℕ → Type 0
    RunsRecord name made text before after status =
        (heard [] × Refuses out out_failed err err_failed name text before after status)
        ⊎ ((entries : List Note) × AreEntries entries text
        × RunsUnder made entries before after status)

    -- the record of this name can't be had, or the script runs under its text
    abbrev pub RunsText : Bor (List ℕ) → Option (List ℕ) → O × E → O × E → ℕ → Type 0
    RunsText name made before after status =
        Lacks (IsUnread opens reads) (name.now ∷ []) before after status
        ⊎ ((text : List ℕ) × IsTextOf opens left name.now text
        × RunsRecord name made text before after status)

    -- the script runs in the live world where no record is named, and else under that record: by
    -- its text, or, where it was found to be a record, by what is read of it as the run goes on
    abbrev pub Runs : (replay made : Option (List ℕ)) → O × E → O × E → ℕ → Type 0
    Runs None made before after status = RunsLive made before after status
    Runs (Some name) made before after status =
        (lent : Bor (List ℕ)) × (lent.now ≡ name)
        × (RunsText lent made before after status
        ⊎ ((reeled : Reeled (FileSource F)) × IsReelOf left opens name reeled
        × RunsOn lent made reeled before after status))

  -- the text of the script can't be had, or it runs with its name and arguments
  abbrev pub Performs : Type 0 → Call → O × E → O × E → ℕ → Type 0
  Performs A call before after status =
      Lacks (IsUnreadScript opens reads takes) call.script before after status
      ⊎ ((text : List ℕ) × IsText (IsScriptOf opens left rest) call text
      × (args : List (Vec ℕ A)) × (texts args ≡ argv_of call.script)
      × Runs text args call.ticks call.replay call.made before after status)
