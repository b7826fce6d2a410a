-- What follows writes of variables, and errors that end a command.
use Rattle.std.proofs.Common.{◌≡◌, ◌∙◌, List, ℕ, Option, Some, None, Result, refl, sym, ap}
use Rattle.state.specs.Prelude.{Flaw, flaw_of, Fault, Raise, Ends, Course, raises, Outcome, Status, outcome_of, Scopes}
use Rattle.acts.specs.declared.raise.Raise.TheVariants as raise
use Rattle.choices.specs.Choice.{Taken}
use Rattle.expects.specs.Report.{Written, on_written, reported, reports}
use Rattle.kinds.specs.Answers.{IsFailure}
use Rattle.state.specs.declared.outcome.Leave.{Leave}

module _ (taken : Option Taken) (s : Status) (next : Status → Course) (old new : Scopes)
    (same : s.scopes ≡ old) where
  -- all elements are set
  pub reports_go : reported taken old ≡ (new, None) →
      reports taken s next ≡ next (record s { scopes = new })
  reports_go is = ap (λ (w : Written). on_written w s next) (ap (reported taken) same ∙ is)

  -- one of the elements can't be set
  pub reports_stop : (flaw : Flaw) → reported taken old ≡ (new, Some flaw) →
      reports taken s next ≡ raises flaw (record s { scopes = new })
  reports_stop flaw is =
      ap (λ (w : Written). on_written w s next) (ap (reported taken) same ∙ is)

-- an error is how a command ends
pub failed_is : {A : Type 0} (why : Raise A) (r : Result (List ℕ) (Leave A)) (s : Status)
    (course : Course) → IsFailure why r →
    ((fault : Fault A) → why ≡ raise.Fault fault → course ≡ raises (flaw_of fault) s) →
    course ≡ (let end : Course = Ends (s, outcome_of r) in end)
failed_is (raise.Fault fault) r s course over each =
    each fault refl ∙ ap (λ (o : Outcome). let c : Course = Ends (s, o) in c) (sym over)
failed_is (raise.NoMemory refusal) r s course over each = absurd over
