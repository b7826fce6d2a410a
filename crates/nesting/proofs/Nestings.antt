-- How far a command that runs scripts or formulas has come, where it is known how it came there.
use Rattle.std.proofs.Common.{◌≡◌, ◌∙◌, ℕ, suc, List, Result, Ok, Err, IfOk, refl, sym, ap, subst}
use Rattle.state.specs.Prelude.{Ends, Course, inside, Outcome, Reaches, here, Status, FitsState, outcome_of}
use Rattle.nesting.specs.Nesting.{Nests, course_of}
use Rattle.state.proofs.Reaches.{same_reaches, then_reaches}
use Rattle.nesting.specs.declared.Nesting.{Nesting}
use Rattle.nesting.specs.declared.Nesting.TheVariants as nesting
use Rattle.state.specs.declared.outcome.Leave.{Leave}
use Rattle.state.specs.declared.state.State.{State}
use Rattle.code.specs.declared.made.CodedScript.{CodedScript}
use Rattle.code.specs.declared.made.Made.TheVariants as made

-- where P implies Q, a result whose value has P has a value that has Q
pub on_ok : {X E : Type 0} (r : Result X E) {P Q : X → Type 0} → ((x : X) → P x → Q x) →
    IfOk r P → IfOk r Q
on_ok (Ok x) each holds = each x holds
on_ok (Err e) each holds = holds

module _ {A H : Type 0} (next : H → Status → Outcome → Course) (state : State A) where
  -- the command has ended with this outcome
  pub over : (r : Result (List ℕ) (Leave A)) (o : Outcome) (s : Status) (course : Course) →
      FitsState state s → outcome_of r ≡ o → course ≡ Ends (s, o) →
      Nests next (nesting.Has r) state course
  over r o s course fits is ends = record {
    status = s;
    fits = fits;
    reaches = same_reaches
        (ends ∙ ap (λ (x : Outcome). let c : Course = Ends (s, x) in c) (sym is));
  }

  -- a command that is as far as a course is as far as an equal course
  pub nests_from : (n : Nesting A H) (c d : Course) → c ≡ d → Nests next n state d →
      Nests next n state c
  nests_from n c d is nests = subst (λ x. Nests next n state x) (sym is) nests

  -- and as far as a course that reads texts first
  pub nests_after : (n : Nesting A H) (c d : Course) → Reaches c d → Nests next n state d →
      Nests next n state c
  nests_after n c d first nests = record {
    status = nests.status;
    fits = nests.fits;
    reaches = then_reaches first nests.reaches;
  }

  -- a script runs one level deeper
  pub script_nests : (script : CodedScript A) (levels inner : ℕ) (held : H) (s : Status) →
      FitsState state s → levels ≡ suc inner →
      Nests next (nesting.Runs (made.Script script) inner held) state
      (inside levels script s (next held))
  script_nests script levels inner held s fits deeper =
      rw deeper (record { status = s; fits = fits; reaches = here })

-- where what is at hand has the same course for a larger command, a course that is as far for the
-- one is as far for the other
pub nests_lifted : {A H K : Type 0} (own : H → Status → Outcome → Course)
    (all : K → Status → Outcome → Course) (state : State A) (n : Nesting A H)
    (lifted : Nesting A K) (course : Course) →
    ((s : Status) → course_of own n s ≡ course_of all lifted s) → Nests own n state course →
    Nests all lifted state course
nests_lifted own all state n lifted course same nests = record {
  status = nests.status;
  fits = nests.fits;
  reaches = then_reaches nests.reaches (same_reaches (same nests.status));
}
