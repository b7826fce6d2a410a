-- What the text of a record leads to.
use Rattle.std.proofs.Common.{◌≡◌, ◌⊎◌, ℕ, Bool, false, List, Option, Some, None, Result, Vec, refl, ap, subst, inl, inr}
use Rattle.std.specs.Borrow.{Bor}
use Rattle.memory.specs.declared.NoMemory.{NoMemory as Refusal}
use Rattle.acts.specs.Deed.{Deed, Reply}
use Rattle.acts.specs.History.{History}
use Rattle.engine.specs.Prelude.{End}
use Rattle.records.specs.declared.record.RecordFault.TheVariants as fault
use Rattle.records.specs.Entry.{AreEntries, HasSecondHeader, IsBadLine, Note}
use Rattle.records.specs.Record.{HasHeader}
use Rattle.records.proofs.Notes.{no_bad_entry, one_bad_entry, one_entries}
use Rattle.recorders.specs.Recorder.{is_lost}
use Rattle.worlds.specs.declared.status.Outcome.{Outcome}
use Rattle.worlds.specs.declared.status.Outcome.TheVariants.{BadRecord}
use Rattle.worlds.specs.Play.{Declines, Plays, PlaysBy, PlaysRecordedBy, Replayed, Starves}
use Rattle.worlds.specs.Program.{MayBeLost}
use Rattle.worlds.proofs.Seen.{none_kept, runs_alone}

-- a text without a header has no bad line
header_bad : (text : List ℕ) (n : ℕ) → (¬ HasHeader text) × (¬ HasSecondHeader text) →
    IsBadLine text n → ⊥
header_bad text n none (inl (count, lines, number, whole, bad)) = none.0 (lines, whole)
header_bad text n none (inr (count, lines, number, whole, bad)) = none.1 (lines, whole)

-- a text without a header is no record
pub header_read : (text : List ℕ) (entries : List Note) →
    (¬ HasHeader text) × (¬ HasSecondHeader text) → AreEntries entries text → ⊥
header_read text entries none (inl (replies, (lines, whole, are), same)) = none.0 (lines, whole)
header_read text entries none (inr (lines, whole, are)) = none.1 (lines, whole)

-- what the text of a record leads to
module _ {O E A : Type 0} (out : O → List ℕ → O → Type 0) (out_failed : O → Bool) (err : E → List ℕ
    → E → Type 0) (err_failed : E → Bool) (heard : History → Type 0)
    (script : List ℕ) (args : List (Vec ℕ A)) (ticks : ℕ) (name : Bor (List ℕ)) (text : List ℕ)
    (before after : O × E) (status : ℕ) where
  pub bad_line_told : Replayed out out_failed err err_failed heard script args ticks name text before
      after status → (n : ℕ) → IsBadLine text n
      → Declines out out_failed err err_failed (BadRecord name n) before after status ⊎ Starves out
      out_failed err err_failed before after status
  bad_line_told (inl (fault.Header, is, told)) n bad = absurd (header_bad text n is bad)
  bad_line_told (inl (fault.Line m, is, told)) n bad =
      inl (subst (λ k. Declines out out_failed err err_failed (BadRecord name k) before after
      status) (one_bad_entry text m n is bad) told)
  bad_line_told (inl (fault.NoMemory refusal, is, told)) n bad = inr (refusal, told)
  bad_line_told (inr (entries, are, plays)) n bad = absurd (no_bad_entry entries text n are bad)

  pub entries_played : Replayed out out_failed err err_failed heard script args ticks name text before
      after status → (entries : List Note) → AreEntries entries text
      → Plays out out_failed err err_failed heard script args ticks false entries before after status
      ⊎ Starves out out_failed err err_failed before after status
  entries_played (inl (fault.Header, is, told)) entries are = absurd (header_read text entries is are)
  entries_played (inl (fault.Line n, is, told)) entries are =
      absurd (no_bad_entry entries text n are is)
  entries_played (inl (fault.NoMemory refusal, is, told)) entries are = inr (refusal, told)
  entries_played (inr (found, are, plays)) entries also =
      inl (subst (λ list. Plays out out_failed err err_failed heard script args ticks false list before
      after status) (one_entries found entries text are also) plays)

-- a run of which a record may be made is a run; `Step` says how its world changes, and `outcome` how
-- it ends
module _ {O E S A R : Type 0} (Step : R × (O × E) → Deed → Reply → R × (O × E) → Type 0)
    (outcome : Bool → R → Result (End A) Refusal → Outcome)
    (out : O → List ℕ → O → Type 0) (out_failed : O → Bool)
    (err : E → List ℕ → E → Type 0) (err_failed : E → Bool)
    (adds : S → List ℕ → S → Type 0) (failed : S → Bool) (heard : History → Type 0)
    (script : List ℕ) (args : List (Vec ℕ A)) (ticks : ℕ) (begun : R) (before after : O × E)
    (status : ℕ) where
  -- the run, of which this sink got the record
  abbrev Recorded : Option S → Option S → Type 0
  Recorded empty kept =
      PlaysRecordedBy out out_failed err err_failed heard script args ticks adds failed Step outcome begun
      before empty after kept status

  -- the run, whose record may be lost
  abbrev Played : Bool → Type 0
  Played lost =
      PlaysBy out out_failed err err_failed heard script args ticks Step outcome lost begun before after
      status

  plays : (empty kept : Option S) → Recorded empty kept → Played (is_lost failed kept)
  plays empty kept (left, told, ended, (first, begins, runs), finishes) = (
    left,
    told,
    ended,
    runs_alone Step adds failed heard script args ticks ((begun, before), first)
        ((left, (after.0, told)), kept) ended runs,
    finishes,
  )

  -- where no record is made, none is lost
  none_lost : (kept : Option S) → Recorded None kept → is_lost failed kept ≡ false
  none_lost kept (left, told, ended, (first, begins, runs), finishes) =
      ap (is_lost failed) (none_kept Step adds failed heard script args ticks ((begun, before), first)
      ((left, (after.0, told)), kept) ended begins runs)

  pub plays_alone : (kept : Option S) → Recorded None kept → Played false
  plays_alone kept all = subst Played (none_lost kept all) (plays None kept all)

  -- whether a record is made or not, it is that run
  pub plays_so : (made : Option (List ℕ)) (empty kept : Option S) → (made ≡ None → empty ≡ None) →
      Recorded empty kept → (lost : Bool) × MayBeLost made lost × Played lost
  plays_so None empty kept none all =
      (false, refl, plays_alone kept (subst (λ first. Recorded first kept) (none refl) all))
  plays_so (Some name) empty kept none all = (is_lost failed kept, tt, plays empty kept all)
