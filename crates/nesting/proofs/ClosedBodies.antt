-- A property that is closed under the steps of which courses are made holds of each call of a
-- procedure, and of each command that runs a script.
use Rattle.std.proofs.Common.{ℕ, List, [], ◌∷◌, Option, Some, None, refl}
use Rattle.nesting.specs.Calls.{call, ended, frame_of, returned, runs_with}
use Rattle.nesting.specs.Catch.{catch, caught, stores_in, number_of}
use Rattle.nesting.specs.Eval.{eval, passed}
use Rattle.pure.specs.Concat.{concatenated}
use Rattle.state.proofs.Closed.{Closed, within_closed, writes_closed, named_closed}
use Rattle.state.specs.Prelude.{Course, Outcome, Gives, Leaves, Stops, Status}
use Rattle.tclstate.specs.Procs.{Procedure}
use Rattle.tclstate.specs.Scopes.{Frame, entered, popped}
use Rattle.std.specs.Prelude.{decimal}

module _ (P : Status → Course → Type 0) (closed : Closed P) where
  returned_closed : (s : Status) (o : Outcome) → P s (returned s o)
  returned_closed s o =
      closed.writing (popped s.scopes) s (returned s o)
      (closed.over (record s { scopes = popped s.scopes }) (ended o))

  runs_closed : (frame : Option Frame) (levels : ℕ) (name body : List ℕ) (s : Status) →
      P s (runs_with frame levels name body s)
  runs_closed None levels name body s = closed.over s _
  runs_closed (Some frame) levels name body s =
      closed.writing (entered frame s.scopes) s _
      (within_closed P closed levels body (record s { scopes = entered frame s.scopes }) returned
      (λ u stop. (record u { scopes = popped u.scopes }, refl)) returned_closed)

  -- each call of a procedure
  pub call_closed : (levels : ℕ) (name : List ℕ) (procedure : Procedure) (words : List (List ℕ))
      (s : Status) → P s (call levels name procedure words s)
  call_closed levels name procedure words s =
      runs_closed (frame_of procedure.formals words) levels name procedure.body s

  stores_closed : (word : Option (List ℕ)) (number : ℕ) (value : List ℕ) (s : Status) →
      P s (stores_in word number value s)
  stores_closed None number value s = closed.over s (Gives (decimal number))
  stores_closed (Some word) number value s =
      named_closed P closed word s _ (λ name index.
      writes_closed P closed name index value s _ (λ u. closed.over u (Gives (decimal number))))

  caught_closed : (word : Option (List ℕ)) (s : Status) (o : Outcome) → P s (caught word s o)
  caught_closed word s (Gives value) = stores_closed word 0 value s
  caught_closed word s (Leaves code value) = stores_closed word (number_of code) value s
  caught_closed word s (Stops stop) = closed.over s (Stops stop)

  -- each `catch`
  pub catch_closed : (levels : ℕ) (args : List (List ℕ)) (s : Status) → P s (catch levels args s)
  catch_closed levels [] s = closed.over s _
  catch_closed levels (text ∷ []) s =
      within_closed P closed levels text s (caught None) (λ u stop. (u, refl)) (caught_closed None)
  catch_closed levels (text ∷ word ∷ []) s =
      named_closed P closed word s _ (λ name index.
      within_closed P closed levels text s (caught (Some word)) (λ u stop. (u, refl))
      (caught_closed (Some word)))
  catch_closed levels (text ∷ word ∷ other ∷ more) s = closed.over s _

  -- each `eval`
  pub eval_closed : (levels : ℕ) (args : List (List ℕ)) (s : Status) → P s (eval levels args s)
  eval_closed levels [] s = closed.over s _
  eval_closed levels (w ∷ ws) s =
      within_closed P closed levels (concatenated (w ∷ ws)) s passed (λ u stop. (u, refl))
      (λ u o. closed.over u o)
