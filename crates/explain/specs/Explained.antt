-- What a call of rx-explain does (this project's own).
use Rattle.std.specs.Prelude.{◌≡◌, ◌⊎◌, ◌||◌, ◌++◌, if◌then◌else◌, ℕ, Bool, false, List, [], Option, Some, None, Result, Ok, MatchBool, codes}
use Rattle.std.specs.Borrow.{Bor}
use Rattle.std.specs.Io.KnownBytes.{Appends}
use Rattle.std.specs.declared.io.Error.{Error}
use Rattle.arguments.specs.Arguments.{Call}
use Rattle.records.specs.Sink.{Takes}
use Rattle.worlds.specs.Lacking.{IsOther, IsOtherRecord, IsUnmade}
use Rattle.worlds.specs.Play.{Declines, Starves}
use Rattle.worlds.specs.Status.{line_of, status_of}
use Rattle.worlds.specs.Program.{Performs}
use Rattle.worlds.specs.declared.status.Outcome.TheVariants.{CannotOpen, OutputFailed}
use Rattle.records.specs.declared.counted.Counted.{Counted}
use Rattle.teller.specs.declared.telling.Detail.{Detail}
use Rattle.explain.specs.Stories.{GoesOn, Told, untold}

-- the line that is written where words ask for no story
abbrev pub usage : List ℕ
usage =
    codes "usage: rx-explain [--story F] [--brief] [-c cmds]... [--replay F] "
    ++ codes "[--record G] [--limit N] [[-f] file [args]]\n"

-- a sink over a file to which nothing has been written
abbrev pub IsNew : {M : Type 0} → M → Counted M → Type 0
IsNew file sink = (sink.writer ≡ file) × (sink.failed ≡ false)

-- a put led from one state of such a sink to another, and the file holds these bytes more
abbrev pub holds_more : {M : Type 0} → (M → Option (List ℕ)) → Counted M → List ℕ → Counted M →
    Type 0
holds_more contents before bytes after =
    Appends (contents before.writer) (contents after.writer) bytes

-- such a sink has failed
abbrev pub has_failed : {M : Type 0} → Counted M → Bool
has_failed sink = sink.failed

-- `err` says whether a write may lead from one state of a writer to another and add these bytes,
-- `err_failed` whether the writer has failed.
module _ {E : Type 0} (err : E → List ℕ → E → Type 0) (err_failed : E → Bool) where
  -- a call whose run had this status ends with it, or, where its story is lost, as where a writer
  -- failed
  abbrev pub Ends : (lost : Bool) → (ended : ℕ) → E → E → ℕ → Type 0
  Ends lost ended before after status =
      MatchBool lost
      (Takes err err_failed before (line_of OutputFailed) after
      × (status ≡ (if err_failed after then 4 else status_of OutputFailed)))
      ((after ≡ before) × (status ≡ ended))

-- As above; standard output is a writer of type O.
module _ {O E : Type 0} (err : E → List ℕ → E → Type 0) (err_failed : E → Bool) where
  -- words that ask for no story are told as such, and nothing else is done
  abbrev pub Rejects : O × E → O × E → ℕ → Type 0
  Rejects before after status =
      (after.0 ≡ before.0) × Takes err err_failed before.1 usage after.1
      × (status ≡ (if err_failed after.1 then 4 else 2))

-- what the system may answer and what each write may do, as in `Performs`
module _ {F I M : Type 0} (opens : List ℕ → Result F Error → Type 0)
    (left : F → Option (List ℕ)) (reads : F → Result ℕ Error → F → Type 0)
    (rest : I → Option (List ℕ)) (takes : I → Result ℕ Error → I → Type 0)
    (makes : List ℕ → Result M Error → Type 0) (same : List ℕ → List ℕ → Bool → Type 0)
    {O E : Type 0} (out : O → List ℕ → O → Type 0) (out_failed : O → Bool)
    (err : E → List ℕ → E → Type 0) (err_failed : E → Bool) where
  -- `adds` says whether a put may lead from one state of the story's sink to another and add these
  -- bytes, `failed` whether that sink has failed.
  module _ {S : Type 0} (adds : S → List ℕ → S → Type 0) (failed : S → Bool) (detail : Detail)
      (sink : S) where
    -- the call does what it does as a call of rx, and a new story is told the acts of that run, and
    -- then its end; and where the story was lost, since memory was refused or its sink failed, the
    -- call ends as where a writer failed, and else as it does as a call of rx
    abbrev pub PerformsTold : Type 0 → Call → O × E → O × E → ℕ → Type 0
    PerformsTold A call before after status =
        (told last : Told S) × (line : E) × (ended : ℕ)
        × Performs opens left reads rest takes makes same out out_failed err err_failed
        (λ history. GoesOn adds failed (untold detail sink) history told) A call before
        (after.0, line) ended
        × GoesOn adds failed told [] last
        × Ends err err_failed (last.is_lost || failed last.sink) ended line after.1 status

    -- nothing runs, since memory was refused; or the call is told
    abbrev pub StarvesOrTold : Type 0 → Call → O × E → O × E → ℕ → Type 0
    StarvesOrTold A call before after status =
        Starves out out_failed err err_failed before after status
        ⊎ PerformsTold A call before after status

  -- the file of the story can't be made
  abbrev pub LacksStory : List ℕ → O × E → O × E → ℕ → Type 0
  LacksStory name before after status =
      IsUnmade makes same name × ((lent : Bor (List ℕ)) × (lent.now ≡ name)
      × Declines out out_failed err err_failed (CannotOpen lent) before after status)

  -- the file of the story was made, and is none that the call reads or makes
  abbrev pub HasStory : List ℕ → M → Call → Type 0
  HasStory name file call =
      makes name (Ok file) × IsOther same call.script call.replay name
      × IsOtherRecord same call.made name

  -- `contents` says which bytes a file that was made holds.
  module _ (contents : M → Option (List ℕ)) where
    -- a call is told to a sink, or to the file that is named, unless that can't be made
    abbrev pub Explains : {S : Type 0} → (S → List ℕ → S → Type 0) → (S → Bool) → S → Type 0 →
        Option (List ℕ) → Detail → Call → O × E → O × E → ℕ → Type 0
    Explains adds failed sink A None detail call before after status =
        StarvesOrTold adds failed detail sink A call before after status
    Explains adds failed sink A (Some name) detail call before after status =
        LacksStory name before after status
        ⊎ ((file : M) × HasStory name file call × (made : Counted M) × IsNew file made
        × StarvesOrTold (holds_more contents) has_failed detail made A call before after status)
