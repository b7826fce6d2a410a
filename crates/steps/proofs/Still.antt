-- Code by which no command begins: what its instructions do, one after the other.
use Rattle.std.proofs.Common.{◌≡◌, ℕ, zero, suc, ◌≤◌, ◌&&◌, List, [], ◌∷◌, Bool, true, false, Option, Some, None, Result, Ok, Err, refl, ap, subst, arith, if◌then◌else◌}
use Rattle.std.specs.Prelude.{nat_le, slice_get}
use Rattle.acts.specs.Flaw as flaw
use Rattle.code.specs.Code.{At}
use Rattle.code.specs.Doing.{are_still, is_still}
use Rattle.code.specs.declared.instruction.Instruction.{Instruction}
use Rattle.code.specs.declared.instruction.Instruction.TheVariants as i
use Rattle.nesting.specs.Catch.{number_of}
use Rattle.operators.specs.Truth.{truth_of}
use Rattle.state.specs.Budget.{again_of}
use Rattle.state.specs.Piece.{Tree}
use Rattle.state.specs.Prelude.{Code, Error, Flaw, Outcome, Scopes, Status, outcome_of, text_of}
use Rattle.state.specs.Variables.{flaw_of_trouble, spelled}
use Rattle.state.specs.declared.outcome.Leave.{Leave}
use Rattle.steps.specs.Does.{Arrives, Does}
use Rattle.steps.specs.Does as it_does
use Rattle.steps.specs.Formulas.{on_truth}
use Rattle.steps.specs.Handling.{fails, handled, led, outside, resumed, way_of, with_code}
use Rattle.steps.specs.Loops.{begin_turn, turned}
use Rattle.steps.specs.Machine.{ahead, does, machine, running}
use Rattle.steps.specs.Moves.{jumping, on_top, ticked, with_operands}
use Rattle.steps.specs.Run.{StaysStill}
use Rattle.steps.specs.Spot.{Spot, Did, Handler, Went, Reads, Begins, Says, Runs, Evaluates, Over, Stuck, with_top}
use Rattle.steps.specs.Storing.{on_written, storing}
use Rattle.steps.specs.View.{did_of}
use Rattle.steps.specs.declared.handler.Way.{Way}
use Rattle.steps.specs.declared.handler.Way.TheVariants as way
use Rattle.steps.specs.declared.progress.Progress.{Progress}
use Rattle.steps.specs.declared.progress.Progress.TheVariants as went
use Rattle.steps.specs.declared.spot.Spot as coded
use Rattle.steps.proofs.First.{outcome_counts}
use Rattle.steps.proofs.Handlers.{leads_nowhere}
use Rattle.tclparse.specs.Variable.{named}
use Rattle.tclstate.specs.Scopes.{Trouble, written}

-- no command begins, no branches are given, and the code is not over by exp_continue
abbrev pub Still : Did → Type 0
Still (Went spot s) = Unit {0}
Still (Reads text next) = (tree : Tree text) → Still (next tree)
Still (Begins words spot s) = ⊥
Still (Says words spot s) = ⊥
Still (Runs text levels spot s) = Unit {0}
Still (Evaluates text spot s) = Unit {0}
Still (Over outcome s) = again_of outcome ≡ 0
Still Stuck = Unit {0}

still_if : (b : Bool) (one other : Did) → Still one → Still other →
    Still (if b then one else other)
still_if true one other first second = first
still_if false one other first second = second

still_jump : (place : ℕ) (spot : Spot) (s : Status) → Still (jumping place spot s)
still_jump place spot s =
    still_if (nat_le spot.place place) (Went (record spot { place = place }) s) Stuck tt tt

still_top : {X : Type 0} (xs : List X) (next : X → List X → Did) →
    ((x : X) (below : List X) → Still (next x below)) → Still (on_top xs next)
still_top [] next still = tt
still_top (x ∷ below) next still = still x below

still_tick : (left : ℕ) (s : Status) (next : Status → Did) → ((t : Status) → Still (next t)) →
    Still (ticked left s next)
still_tick zero s next still = refl
still_tick (suc left) s next still = still (record s { left = left })

still_led : (w : Option Way) (code : Code) (value : List ℕ) (spot : Spot) (s : Status)
    (h : Handler) (handlers : List Handler) (around : Did) → Still around →
    Still (led w code value spot s h handlers around)
still_led None code value spot s h handlers around still = still
still_led (Some way.Out) code value spot s h handlers around still =
    still_jump h.over (outside h handlers spot) s
still_led (Some (way.End end)) code value spot s h handlers around still =
    still_jump end (with_top [] (outside h (h ∷ handlers) spot)) s
still_led (Some way.Caught) code value spot s h handlers around still =
    still_jump h.over (with_code (number_of code) value (outside h handlers spot)) s

still_handled : (handlers : List Handler) (value : List ℕ) (spot : Spot) (s : Status) →
    Still (handled handlers Error value spot s)
still_handled [] value spot s = refl
still_handled (h ∷ handlers) value spot s =
    still_led (way_of h.covers Error) Error value spot s h handlers
    (handled handlers Error value spot s) (still_handled handlers value spot s)

still_fails : (why : Flaw) (spot : Spot) (s : Status) → Still (fails why spot s)
still_fails why spot s = still_handled spot.handlers (text_of why) spot s

still_truth : (read : Result Bool Flaw) (spot : Spot) (s : Status) (next : Bool → Did) →
    ((holds : Bool) → Still (next holds)) → Still (on_truth read spot s next)
still_truth (Ok holds) spot s next still = still holds
still_truth (Err why) spot s next still = still_fails why spot s

still_running : (levels : ℕ) (text : List ℕ) (spot : Spot) (s : Status) →
    Still (running levels text spot s)
still_running zero text spot s = still_fails flaw.TooManyNested spot s
still_running (suc levels) text spot s = tt

still_turned : (body end : ℕ) (holds : Bool) (spot : Spot) (s : Status) →
    Still (turned body end holds spot s)
still_turned body end true spot s =
    still_tick s.left s (λ t. Went (begin_turn body end spot) t) (λ t. tt)
still_turned body end false spot s = tt

still_written : (r : Result Scopes Trouble) (name : List ℕ) (spot : Spot) (s : Status) →
    Still (on_written r name spot s (λ t. Went spot t))
still_written (Ok scopes) name spot s = tt
still_written (Err trouble) name spot s = still_fails (flaw_of_trouble trouble name) spot s

still_storing : (n : Option (List ℕ × Option (List ℕ))) (value : List ℕ) (spot : Spot)
    (s : Status) → Still (storing n value spot s)
still_storing None value spot s = still_fails flaw.BadVariable spot s
still_storing (Some n) value spot s =
    still_written (written s.scopes n.0 n.1 value) (spelled n.0 n.1) spot s

-- an instruction by which no command begins
still_does : {A : Type 0} (it : Instruction A) (spot : Spot) (s : Status) → is_still it ≡ true →
    Still (does it spot s)
still_does (i.Text bytes) spot s is = tt
still_does (i.Run text after) spot s is = still_running spot.levels text spot s
still_does (i.Evaluate text) spot s is = tt
still_does (i.Unless place) spot s is =
    still_top spot.operands _ (λ value below.
    still_truth (truth_of value) (with_operands below spot) s _ (λ holds.
    still_if holds (Went (with_operands below spot) s)
    (jumping place (with_operands below spot) s) tt
    (still_jump place (with_operands below spot) s)))
still_does (i.Jump place) spot s is = still_jump place spot s
still_does (i.Turn body end) spot s is =
    still_top spot.operands _ (λ value below.
    still_truth (truth_of value) (with_operands below spot) s _ (λ holds.
    still_turned body end holds (with_operands below spot) s))
still_does i.Step spot s is =
    still_top spot.operands _ (λ value below. still_top spot.handlers _ (λ handler handlers. tt))
still_does i.EndTurn spot s is =
    still_top spot.operands _ (λ value below. still_top spot.handlers _ (λ handler handlers. tt))
still_does i.Discard spot s is = still_top spot.operands _ (λ value below. tt)
still_does (i.Catch place) spot s is = tt
still_does i.EndCatch spot s is =
    still_top spot.operands _ (λ value below. still_top spot.handlers _ (λ handler handlers. tt))
still_does (i.Store name) spot s is =
    still_top spot.operands _ (λ value below.
    still_storing (named name) value (with_operands below spot) s)
still_does (i.Next from_end) spot s is = absurd (cc)
still_does (i.Variable name) spot s is = absurd (cc)
still_does (i.Element name) spot s is = absurd (cc)
still_does i.Join spot s is = absurd (cc)
still_does i.Enter spot s is = absurd (cc)
still_does (i.Body after) spot s is = absurd (cc)
still_does i.Leave spot s is = absurd (cc)
still_does (i.Count n) spot s is = absurd (cc)
still_does i.Spread spot s is = absurd (cc)
still_does (i.Command n) spot s is = absurd (cc)
still_does i.Counted spot s is = absurd (cc)
still_does i.Say spot s is = absurd (cc)
still_does (i.Fault fault) spot s is = absurd (cc)
still_does (i.Numeral digits) spot s is = absurd (cc)
still_does (i.Prefix operator) spot s is = absurd (cc)
still_does (i.Binary operator) spot s is = absurd (cc)
still_does (i.Call function n) spot s is = absurd (cc)
still_does (i.AndAlso place) spot s is = absurd (cc)
still_does (i.OrElse place) spot s is = absurd (cc)
still_does i.Truth spot s is = absurd (cc)
still_does i.Result spot s is = absurd (cc)
still_does (i.Unhidden name place) spot s is = absurd (cc)
still_does (i.Foreach variables body place) spot s is = absurd (cc)
still_does (i.Deal place) spot s is = absurd (cc)
still_does (i.More place) spot s is = absurd (cc)
still_does (i.Assign name) spot s is = absurd (cc)
still_does (i.Begin body end) spot s is = absurd (cc)
still_does i.Done spot s is = absurd (cc)
still_does (i.Switch options after place) spot s is = absurd (cc)
still_does (i.Equals pattern taken other) spot s is = absurd (cc)
still_does (i.Matches pattern taken other) spot s is = absurd (cc)
still_does (i.Set name) spot s is = absurd (cc)
still_does (i.Append name) spot s is = absurd (cc)
still_does (i.Add name) spot s is = absurd (cc)
still_does i.Increment spot s is = absurd (cc)
still_does i.Return spot s is = absurd (cc)
still_does i.Hole spot s is = absurd (cc)

both_true : (a b : Bool) → (a && b) ≡ true → (a ≡ true) × (b ≡ true)
both_true true b is = (refl, is)
both_true false b is = absurd (cc)

same_some : {X : Type 0} (x y : X) → Some x ≡ Some y → x ≡ y
same_some x y is = cc

still_did : (did other : Did) → Still did → Does did other → Still other
still_did did other still it_does.same = still
still_did (Reads text next) other still (it_does.reads tree is more) =
    still_did (next tree) other (still tree) more

module _ {A : Type 0} where
  -- each instruction of such code
  still_at : (code : List (Instruction A)) → are_still code ≡ true → (place : ℕ)
      (it : Instruction A) → At code place it → is_still it ≡ true
  still_at [] is place it at = absurd (cc)
  still_at (x ∷ code) is zero it at =
      subst (λ x. is_still x ≡ true) (same_some x it at)
      (both_true (is_still x) (are_still code) is).0
  still_at (x ∷ code) is (suc place) it at =
      still_at code (both_true (is_still x) (are_still code) is).1 place it at

  still_there : (code : List (Instruction A)) → are_still code ≡ true → (place : ℕ)
      (o : Option (Instruction A)) → slice_get code place ≡ o → (spot : Spot) (s : Status) →
      Still (machine o spot s)
  still_there code is place None at spot s = still_top spot.operands _ (λ value below. refl)
  still_there code is place (Some it) at spot s =
      still_does it (ahead spot) s (still_at code is place it at)

  -- several instructions
  pub still_arrives : (code : List (Instruction A)) → are_still code ≡ true → {from : Spot}
      {s : Status} {did : Did} → Arrives code from s did → Still did
  still_arrives code is it_does.stays = tt
  still_arrives code is (it_does.then {spot = spot} {t = t} {did = did} before does) =
      still_did (machine (slice_get code spot.place) spot t) did
      (still_there code is spot.place (slice_get code spot.place) refl spot t) does

  -- what the run of a code does after that
  pub stays_still : (progress : Progress) (spot : coded.Spot A) (s : Status) (most : ℕ) →
      Still (did_of progress spot s) → StaysStill progress spot most
  stays_still went.GoesOn spot s most still = tt
  stays_still went.Begins spot s most still = still
  stays_still went.Says spot s most still = still
  stays_still went.Runs spot s most still = tt
  stays_still went.Evaluates spot s most still = tt
  stays_still went.Over spot s most still = omega (arith, still)
  stays_still went.Stuck spot s most still = tt

  -- an outcome that leads nowhere begins nothing
  pub outcome_stays : (progress : Progress) (new : coded.Spot A) (spot : Spot) (o : Outcome) →
      ((s : Status) → did_of progress new s ≡ resumed spot o s) →
      StaysStill progress new (again_of o)
  outcome_stays went.GoesOn new spot o does = tt
  outcome_stays went.Begins new spot o does = leads_nowhere went.Begins new spot o does tt
  outcome_stays went.Says new spot o does = leads_nowhere went.Says new spot o does tt
  outcome_stays went.Runs new spot o does = tt
  outcome_stays went.Evaluates new spot o does = tt
  outcome_stays went.Over new spot o does = outcome_counts went.Over new spot o does refl
  outcome_stays went.Stuck new spot o does = tt

  -- where the outcome is the same, and may count more
  pub stays_on : (progress : Progress) (old new : coded.Spot A) (most more : ℕ) →
      (progress ≡ went.Over → new.outcome ≡ old.outcome) → most ≤ more →
      StaysStill progress old most → StaysStill progress new more
  stays_on went.GoesOn old new most more same le still = tt
  stays_on went.Begins old new most more same le still = still
  stays_on went.Says old new most more same le still = still
  stays_on went.Runs old new most more same le still = tt
  stays_on went.Evaluates old new most more same le still = tt
  stays_on went.Over old new most more same le still =
      let is = ap (λ (o : Result (List ℕ) (Leave A)). again_of (outcome_of o)) (same refl) in
      omega (arith, is, le, still)
  stays_on went.Stuck old new most more same le still = tt
