-- A live run of which a record may be made.
use Rattle.std.proofs.Common.{◌≡◌, ℕ, Bool, false, List, Option, Some, None, Vec, refl, ap, subst}
use Rattle.acts.specs.History.{History}
use Rattle.recorders.specs.Recorder.{is_lost}
use Rattle.worlds.specs.Lived.{Lived, LivedRecorded, Steps}
use Rattle.worlds.specs.Program.{MayBeLost}
use Rattle.worlds.proofs.Seen.{none_kept, runs_alone}

module _ {O E S A : Type 0} (out : O → List ℕ → O → Type 0) (out_failed : O → Bool)
    (err : E → List ℕ → E → Type 0) (err_failed : E → Bool)
    (adds : S → List ℕ → S → Type 0) (failed : S → Bool) (heard : History → Type 0)
    (script : List ℕ) (args : List (Vec ℕ A)) (ticks : ℕ) where
  -- a live run of which a record may be made is a live run
  pub lives : (before after : O × E) (empty kept : Option S) (status : ℕ) →
      LivedRecorded out out_failed err err_failed heard script args ticks adds failed before empty after
      kept status →
      Lived out out_failed err err_failed heard script args ticks (is_lost failed kept) before after status
  lives before after empty kept status (told, ended, (begun, begins, runs), finishes) = (
    told,
    ended,
    runs_alone (Steps out err) adds failed heard script args ticks (before, begun)
        ((after.0, told), kept) ended runs,
    finishes,
  )

  -- where no record is made, none is lost
  pub lives_alone : (before after : O × E) (kept : Option S) (status : ℕ) →
      LivedRecorded out out_failed err err_failed heard script args ticks adds failed before None after
      kept status →
      Lived out out_failed err err_failed heard script args ticks false before after status
  lives_alone before after kept status (told, ended, (begun, begins, runs), finishes) =
      let none : kept ≡ None =
      none_kept (Steps out err) adds failed heard script args ticks (before, begun)
      ((after.0, told), kept) ended begins runs in
      subst (λ lost. Lived out out_failed err err_failed heard script args ticks lost before after status)
      (ap (is_lost failed) none)
      (lives before after None kept status (told, ended, (begun, begins, runs), finishes))

  -- whether a record is made or not, the run is a live run
  pub lives_so : (made : Option (List ℕ)) (before after : O × E) (empty kept : Option S)
      (status : ℕ) → (made ≡ None → empty ≡ None) →
      LivedRecorded out out_failed err err_failed heard script args ticks adds failed before empty after
      kept status →
      (lost : Bool) × MayBeLost made lost
      × Lived out out_failed err err_failed heard script args ticks lost before after status
  lives_so None before after empty kept status none lived = (
    false,
    refl,
    lives_alone before after kept status (subst (λ begun. LivedRecorded out out_failed err
        err_failed heard script args ticks adds failed before begun after kept status) (none refl) lived),
  )
  lives_so (Some name) before after empty kept status none lived =
      (is_lost failed kept, tt, lives before after empty kept status lived)
