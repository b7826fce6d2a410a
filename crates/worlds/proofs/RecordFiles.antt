-- Files that were found to be records.
use Rattle.std.proofs.Common.{◌≡◌, ℕ, List, [], Option, Some, None, Result, Ok, subst}
use Rattle.std.specs.Prelude.{IfSome}
use Rattle.std.specs.declared.io.Error.{Error}
use Rattle.records.specs.Entry.{second_header}
use Rattle.records.specs.Reading.{GivesRecord, ReadsOn}
use Rattle.replays.specs.Reel.{Reeled, begun}
use Rattle.worlds.specs.RecordSource.{Gives, IsRecordFile, IsReelOf}
use Rattle.worlds.specs.declared.record_source.FileSource.{FileSource}

module _ {F : Type 0} (left : F → Option (List ℕ)) (opens : List ℕ → Result F Error → Type 0)
    (name : List ℕ) where
  -- the entries that were counted are those of the file
  pub counted : (first last : FileSource F) (found : Option ℕ) → opens name (Ok first.file) →
      IfSome found (λ count. GivesRecord (Gives left) count first last) →
      IfSome found (λ count. IsRecordFile left opens name count)
  counted first last None opened gives = tt
  counted first last (Some count) opened gives = (first, last, opened, gives)

  -- a recorded run whose header was read is that of the file
  pub reel_of : (count : ℕ) (again : FileSource F) (held : List ℕ)
      (place : FileSource F × List ℕ) (reeled : Reeled (FileSource F)) →
      IsRecordFile left opens name count → opens name (Ok again.file) → held ≡ [] →
      ReadsOn (Gives left) (λ source. source.left) (again, held) second_header place →
      reeled ≡ begun place count → IsReelOf left opens name reeled
  reel_of count again held place reeled is opened none header same = (
    count,
    is,
    (
      again,
      place,
      opened,
      subst (λ (rest : List ℕ). ReadsOn (Gives left) (λ source. source.left) (again, rest)
          second_header place) none header,
      same,
    ),
  )
