-- Commands that run scripts, and what they hold meanwhile.
use Rattle.std.proofs.Common.{◌≡◌, ◌∙◌, ℕ, List, [], ◌∷◌, Result, sym, ap}
use Rattle.code.specs.Doing.{doing_of}
use Rattle.code.specs.declared.doing.Doing.{Doing}
use Rattle.code.specs.declared.made.Entry.TheVariants as entry
use Rattle.code.specs.declared.made.Made.{Made}
use Rattle.code.specs.declared.made.Made.TheVariants as made
use Rattle.nesting.specs.Doing.{done}
use Rattle.nesting.specs.Eval.{passed}
use Rattle.nesting.specs.Nesting.{Nests}
use Rattle.nesting.specs.View as control
use Rattle.nesting.specs.declared.held.Held.{Held}
use Rattle.machine.specs.Frames.{Onward, left_of, onward_of}
use Rattle.steps.specs.Goes.{Goes, here, calls}
use Rattle.machine.specs.Phases.{Begins, Leads, course_of_next}
use Rattle.machine.specs.declared.starting.Next.TheVariants as next
use Rattle.machine.specs.declared.frame.Frame.{Frame}
use Rattle.machine.specs.declared.frame.Frame.TheVariants as frame
use Rattle.machine.proofs.Silent.{reaches_goes}
use Rattle.steps.proofs.Leads.Silent.{same_goes, then_goes}
use Rattle.state.specs.Prelude.{Course, gives, Status}
use Rattle.plan.proofs.Joined.{associates, ends_unit}
use Rattle.plan.specs.Plan.{onward}
use Rattle.state.specs.Evaluated.{evaluated}
use Rattle.nesting.specs.Nesting as nests
use Rattle.state.specs.declared.leaf.Leaf.TheVariants as at_hand
use Rattle.nesting.specs.declared.Nesting.TheVariants as nesting
use Rattle.state.specs.declared.outcome.Leave.{Leave}
use Rattle.state.specs.declared.state.State.{State}

module _ {A : Type 0} (last : Onward) (fs : List (Frame A)) where
  -- a command that is over continues under the frames
  pub over_held : (r : Result (List ℕ) (Leave A)) (state : State A) (course : Course) →
      Nests (control.next_of {A = A}) (nesting.Has r) state course →
      Leads last (at_hand.Has r) fs state (left_of last course fs)
  over_held r state course shown = record {
    status = shown.status;
    fits = shown.fits;
    goes = reaches_goes last fs shown.reaches;
  }

  -- a script or a formula stands on the stack above the command that runs it
  pub held_goes : (it : Made A) (levels : ℕ) (held : Held A) (new : List (Frame A))
      (s : Status) →
      new ≡ frame.Code (entry.Made it) levels ∷ frame.Held held ∷ fs →
      Goes (left_of last (nests.course_of (control.next_of {A = A})
      (nesting.Runs it levels held) s) fs)
      (left_of last (gives [] s) new)
  held_goes (made.Script tree) levels held new s on =
      then_goes (calls here) (same_goes (ap (λ l. left_of last (gives [] s) l) (sym on)))
  held_goes (made.Formula f) levels held new s on =
      same_goes
      (associates (evaluated levels f s (λ t value. gives value t))
      (onward (control.next_of held)) (onward (onward_of last fs))
      ∙ ap (λ l. left_of last (gives [] s) l) (sym on))

  pub runs_held : (it : Made A) (levels : ℕ) (held : Held A) (new : List (Frame A))
      (state : State A) (course : Course) →
      new ≡ frame.Code (entry.Made it) levels ∷ frame.Held held ∷ fs →
      Nests (control.next_of {A = A}) (nesting.Runs it levels held) state course →
      Begins last (course_of_next {A = A} next.Again) new state (left_of last course fs)
  runs_held it levels held new state course on shown = record {
    status = shown.status;
    fits = shown.fits;
    goes = then_goes (reaches_goes last fs shown.reaches)
        (held_goes it levels held new shown.status on);
  }

  -- something runs, or is done, in place of a command
  pub runs_instead : (it : Made A) (levels : ℕ) (new : List (Frame A)) (s : Status) →
      new ≡ frame.Code (entry.Made it) levels ∷ fs →
      Goes (left_of last (nests.runs it levels s passed) fs) (left_of last (gives [] s) new)
  runs_instead (made.Script tree) levels new s on =
      then_goes (calls here) (same_goes (ap (λ l. left_of last (gives [] s) l) (sym on)))
  runs_instead (made.Formula f) levels new s on =
      same_goes
      (ap (λ c. left_of last c fs) (ends_unit (evaluated levels f s (λ t value. gives value t)))
      ∙ ap (λ l. left_of last (gives [] s) l) (sym on))

  pub does_instead : (doing : Doing A) (levels : ℕ) (new : List (Frame A)) (s : Status) →
      new ≡ frame.Code (entry.Does doing) levels ∷ fs →
      Goes (left_of last (done (doing_of doing) levels s) fs) (left_of last (gives [] s) new)
  does_instead doing levels new s on =
      same_goes (ap (λ l. left_of last (gives [] s) l) (sym on))
