-- What a text is read as, above the frames.
use Rattle.std.proofs.Common.{◌≡◌, ◌∙◌, ℕ, List, [], ◌∷◌, Result, Ok, Err, sym, ap, subst, arith}
use Rattle.acts.specs.Flaw.{Flaw, text_of}
use Rattle.code.specs.ReadsCode.{ReadsCode}
use Rattle.code.specs.declared.made.Entry.TheVariants as entry
use Rattle.code.specs.declared.made.Made.{Made}
use Rattle.code.specs.declared.made.Made.TheVariants as made
use Rattle.nesting.specs.Formulas.{flaw_of_formula}
use Rattle.formulas.specs.Seen.{fault_of}
use Rattle.formulas.specs.declared.error.ReadError.{ReadError}
use Rattle.formulas.specs.declared.error.ReadError.TheVariants as error
use Rattle.formulas.specs.declared.fault.Fault.{Fault}
use Rattle.machine.specs.Frames.{Onward, left_of}
use Rattle.machine.specs.Inner.{Puts, PutsValue}
use Rattle.machine.specs.declared.frame.Frame.{Frame}
use Rattle.machine.specs.declared.frame.Frame.TheVariants as frame
use Rattle.machine.proofs.Silent.{same_left}
use Rattle.state.specs.Budget.{again_of}
use Rattle.state.specs.Prelude.{Course, Ends, Error, Leaves, Status, gives, outcome_of}
use Rattle.state.specs.declared.outcome.Leave.{Leave}
use Rattle.steps.proofs.Leads.Silent.{same_goes, then_goes}
use Rattle.steps.specs.Follows.{run_by, value_by}
use Rattle.steps.specs.Goes.{Goes, here, calls}
use Rattle.tclparse.specs.Formula.{Formula}

-- the course of a script, or of a formula
abbrev pub course_of : {A : Type 0} → Made A → ℕ → Status → Course
course_of (made.Script tree) levels = run_by tree levels
course_of (made.Formula formula) levels = value_by (Ok formula) levels

module _ {A : Type 0} where
  -- what a text is read as stands on top, and is entered with the empty text
  made_goes : (last : Onward) (below frames : List (Frame A)) (it : Made A) (levels : ℕ)
      (value : List ℕ) (s : Status) → value ≡ [] →
      frames ≡ frame.Code (entry.Made it) levels ∷ below →
      Goes (left_of last (course_of it levels s) below) (left_of last (gives value s) frames)
  made_goes last below frames (made.Script tree) levels value s is on =
      then_goes (calls here) (same_goes
      (ap (λ l. left_of last (gives [] s) l) (sym on)
      ∙ ap (λ v. left_of last (gives v s) frames) (sym is)))
  made_goes last below frames (made.Formula f) levels value s is on =
      same_goes
      (ap (λ l. left_of last (gives [] s) l) (sym on)
      ∙ ap (λ v. left_of last (gives v s) frames) (sym is))

  pub made_puts : (below frames : List (Frame A)) (it : Made A) (levels : ℕ) (value : List ℕ) →
      value ≡ [] → frames ≡ frame.Code (entry.Made it) levels ∷ below →
      Puts (Ok value) below frames (course_of it levels)
  made_puts below frames it levels value is on = record {
    leads = λ last state s fits.
        record { status = s; fits = fits; goes = made_goes last below frames it levels value s is on };
    words = rw on (omega arith);
    weight = rw on (omega arith);
  }

  -- the error that a text is no formula is at hand
  pub fault_puts : (frames : List (Frame A)) (text : List ℕ) (levels : ℕ)
      (read : Result Formula ReadError) (why : ReadError) (fault : Fault) (flaw : Flaw)
      (outcome : Result (List ℕ) (Leave A)) →
      read ≡ Err why → why ≡ error.Fault fault → ReadsCode text read →
      flaw ≡ flaw_of_formula (fault_of fault) → outcome_of outcome ≡ Leaves Error (text_of flaw) →
      PutsValue outcome frames frames text levels
  fault_puts frames text levels read why fault flaw outcome is also reading same raises =
      let by_why : ReadError → Type 0 = λ e. ReadsCode text (Err e) in
      let means = raises ∙ ap (λ f. Leaves Error (text_of f)) same in
      let none : again_of (outcome_of outcome) ≡ 0 = ap again_of means in (
        Err (fault_of fault),
        subst by_why also (subst (λ r. ReadsCode text r) is reading),
        record {
          leads = λ last state s fits. record {
            status = s;
            fits = fits;
            goes = same_left last frames
                (ap (λ o. let p : Course = Ends (s, o) in p) (sym means));
          };
          words = omega (arith, none);
          weight = omega arith;
        },
      )
