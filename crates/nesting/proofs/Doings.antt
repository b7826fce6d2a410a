-- What commands do whose words are read first, and how far they have come by that.
use Rattle.std.proofs.Common.{◌≡◌, ◌∙◌, ℕ, List, [], ◌∷◌, Option, Some, None, Ok, Result, refl}
use Rattle.acts.specs.Flaw.{Flaw}
use Rattle.acts.specs.Raise.{Answers, bind}
use Rattle.code.specs.Branches.{Branches, branches}
use Rattle.code.specs.Doing.{Doing, Catch, doing_of}
use Rattle.nesting.specs.Catch.{caught}
use Rattle.nesting.specs.Commands.{does}
use Rattle.nesting.specs.Conditional as if_then
use Rattle.nesting.specs.Control as control
use Rattle.nesting.specs.Doing.{catch_words, done_by, for_words, if_words, on_branches, on_taker, while_words}
use Rattle.nesting.specs.Nesting.{Nests, course_of}
use Rattle.nesting.specs.View.{HasBegun, course_of_begun}
use Rattle.nesting.specs.declared.Nesting.{Nesting}
use Rattle.nesting.specs.declared.begun.Begun.{Begun}
use Rattle.state.proofs.Reaches.{same_reaches, then_reaches}
use Rattle.state.specs.Prelude.{Course, FitsState, Outcome, Status, within}
use Rattle.state.specs.Variables.{on_name}
use Rattle.state.specs.declared.state.State.{State}
use Rattle.tclparse.specs.Variable.{named}

module _ (levels : ℕ) (s : Status) where
  branches_so : (found : Option Branches) →
      if_then.on_branches levels found s ≡ done_by levels s (on_branches found)
  branches_so None = refl
  branches_so (Some found) = refl

  -- each of them
  pub if_so : (args : List (List ℕ)) → does control.If levels args s ≡ done_by levels s (if_words args)
  if_so args = branches_so (branches args)

  pub while_so : (args : List (List ℕ)) →
      does control.While levels args s ≡ done_by levels s (while_words args)
  while_so [] = refl
  while_so (test ∷ []) = refl
  while_so (test ∷ body ∷ []) = refl
  while_so (test ∷ body ∷ other ∷ more) = refl

  pub for_so : (args : List (List ℕ)) →
      does control.For levels args s ≡ done_by levels s (for_words args)
  for_so [] = refl
  for_so (start ∷ []) = refl
  for_so (start ∷ test ∷ []) = refl
  for_so (start ∷ test ∷ step ∷ []) = refl
  for_so (start ∷ test ∷ step ∷ body ∷ []) = refl
  for_so (start ∷ test ∷ step ∷ body ∷ other ∷ more) = refl

  taker_so : (text word : List ℕ) (name : Option (List ℕ × Option (List ℕ))) →
      on_name name s (λ n index. within levels text s (caught (Some word)))
      ≡ done_by levels s
      (bind (on_taker word name) (λ it. let d : Result Doing Flaw = Ok (Catch text (Some it)) in d))
  taker_so text word None = refl
  taker_so text word (Some name) = refl

  pub catch_so : (args : List (List ℕ)) →
      does control.Catch levels args s ≡ done_by levels s (catch_words args)
  catch_so [] = refl
  catch_so (text ∷ []) = refl
  catch_so (text ∷ word ∷ []) = taker_so text word (named word)
  catch_so (text ∷ word ∷ other ∷ more) = refl

module _ {A : Type 0} (b : Begun A) (state : State A) (course : Course) where
  -- a command has come so far by its words, and nothing else is done
  pub begun_so : (s : Status) → FitsState state s → course ≡ course_of_begun b s →
      HasBegun b state course
  begun_so s fits is = record { status = s; fits = fits; reaches = same_reaches is }

  -- how far one command has come, as one of all
  pub begun_from : {H : Type 0} (next : H → Status → Outcome → Course) (n : Nesting A H) →
      ((s : Status) → course_of next n s ≡ course_of_begun b s) → Nests next n state course →
      HasBegun b state course
  begun_from next n same nests = record {
    status = nests.status;
    fits = nests.fits;
    reaches = then_reaches nests.reaches (same_reaches (same nests.status));
  }
