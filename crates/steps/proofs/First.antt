-- What a run does first, and what ends it.
use Rattle.std.proofs.Common.{◌≡◌, ℕ, zero, suc, ◌-◌, ◌*◌, ◌<◌, ◌≤◌, List, [], ◌∷◌, None, Option, Some, Result, Ok, Err, refl, sym, ap, subst, ⊎_elim, arith}
use Rattle.std.proofs.Math.Nat.{eq-or-lt_of_le}
use Rattle.std.specs.Prelude.{nat_le, slice_get, if◌then◌else◌, true, false, Bool}
use Rattle.code.specs.declared.instruction.Instruction.{Instruction}
use Rattle.runs.specs.Run.{initial}
use Rattle.state.specs.Budget.{again_of}
use Rattle.state.specs.declared.outcome.Leave.{Leave}
use Rattle.state.specs.Prelude.{Again, AgainRunning, Break, Code, Continue, Error, Return, Gives, Leaves, Outcome, Status, Stops, outcome_of}
use Rattle.steps.specs.Does.{Does}
use Rattle.steps.specs.Does as it_does
use Rattle.steps.specs.Handling.{handled, led, outside, resumed, way_of, with_code}
use Rattle.nesting.specs.Catch.{number_of}
use Rattle.steps.specs.Machine.{machine}
use Rattle.steps.specs.Moves.{jumping, on_top}
use Rattle.steps.specs.Run.{IsIdle, IsValue}
use Rattle.steps.specs.Spot.{Spot, Did, Handler, Went, Reads, Begins, Says, Runs, Evaluates, Over, Stuck, with_top}
use Rattle.steps.specs.View.{did_of, spot_of}
use Rattle.steps.specs.declared.handler.Way.{Way}
use Rattle.steps.specs.declared.handler.Way.TheVariants as way
use Rattle.steps.specs.declared.progress.Progress.{Progress}
use Rattle.steps.specs.declared.progress.Progress.TheVariants as went
use Rattle.steps.specs.declared.spot.Spot as coded
use Rattle.steps.proofs.Handlers.{leads_nowhere}

-- so where a command begins a tick was taken
pub ticked_by : {A : Type 0} (said : ℕ) (code : List (Instruction A)) (progress : Progress)
    (spot : coded.Spot A) (now left : ℕ) →
    progress ≡ went.Begins → now ≤ left → (now ≡ left → IsIdle said code progress spot) → now < left
ticked_by said code progress spot now left begun fewer unless =
    ⊎_elim (λ same. absurd (subst (λ it. IsIdle said code it spot) begun (unless same))) (λ less. less)
    (eq-or-lt_of_le fewer)

-- some state of the definition
abbrev pub any_state : Status
any_state = initial [] 0

-- where something went on, this is where
abbrev spot_in : Did → Spot → Spot
spot_in (Went spot s) other = spot
spot_in (Reads text next) other = other
spot_in (Begins words spot s) other = other
spot_in (Says words spot s) other = other
spot_in (Runs text levels spot s) other = other
spot_in (Evaluates text spot s) other = other
spot_in (Over outcome s) other = other
spot_in Stuck other = other

-- a value is put on top of a run
pub value_put : {A : Type 0} (progress : Progress) (new old : coded.Spot A) (value : List ℕ) →
    ((s : Status) → did_of progress new s ≡ resumed (spot_of old) (Gives value) s) →
    progress ≡ went.GoesOn → spot_of new ≡ with_top value (spot_of old)
value_put progress new old value does goes =
    let s = any_state in
    let did : did_of went.GoesOn new s ≡ resumed (spot_of old) (Gives value) s =
    subst (λ it. did_of it new s ≡ resumed (spot_of old) (Gives value) s) goes (does s) in
    ap (λ d. spot_in d (spot_of new)) did

-- where the outcome is a value, the run stands where it stood
pub stands_still : {A : Type 0} (progress : Progress) (new old : coded.Spot A)
    (outcome : Result (List ℕ) (Leave A)) → IsValue outcome →
    ((s : Status) → did_of progress new s ≡ resumed (spot_of old) (outcome_of outcome) s) →
    progress ≡ went.GoesOn →
    (new.place ≡ old.place) × ((spot_of new).handlers ≡ (spot_of old).handlers)
stands_still progress new old (Ok value) is does goes =
    let put = value_put progress new old value does goes in
    (ap (λ spot. spot.place) put, ap (λ spot. spot.handlers) put)
stands_still progress new old (Err leave) is does goes = absurd is

-- an outcome of exp_continue counts as one
pub again_small : (o : Outcome) → again_of o ≤ 1
again_small (Gives value) = omega arith
again_small (Leaves Error value) = omega arith
again_small (Leaves Return value) = omega arith
again_small (Leaves Break value) = omega arith
again_small (Leaves Continue value) = omega arith
again_small (Leaves Again value) = omega arith
again_small (Leaves AgainRunning value) = omega arith
again_small (Stops stop) = omega arith

-- where the code is over, its outcome counts at most so much
abbrev pub Counts : ℕ → Did → Type 0
Counts most (Went spot s) = Unit {0}
Counts most (Reads text next) = ⊥
Counts most (Begins words spot s) = Unit {0}
Counts most (Says words spot s) = Unit {0}
Counts most (Runs text levels spot s) = Unit {0}
Counts most (Evaluates text spot s) = Unit {0}
Counts most (Over outcome s) = again_of outcome ≤ most
Counts most Stuck = Unit {0}

jumped_counts : (b : Bool) (most : ℕ) (spot : Spot) (s : Status) →
    Counts most (if b then Went spot s else Stuck)
jumped_counts true most spot s = tt
jumped_counts false most spot s = tt

jumping_counts : (place most : ℕ) (spot : Spot) (s : Status) → Counts most (jumping place spot s)
jumping_counts place most spot s =
    jumped_counts (nat_le spot.place place) most (record spot { place = place }) s

led_counts : (w : Option Way) (code : Code) (value : List ℕ) (spot : Spot) (s : Status)
    (h : Handler) (handlers : List Handler) (around : Did) (most : ℕ) → Counts most around →
    Counts most (led w code value spot s h handlers around)
led_counts None code value spot s h handlers around most counts = counts
led_counts (Some way.Out) code value spot s h handlers around most counts =
    jumping_counts h.over most (outside h handlers spot) s
led_counts (Some (way.End end)) code value spot s h handlers around most counts =
    jumping_counts end most (with_top [] (outside h (h ∷ handlers) spot)) s
led_counts (Some way.Caught) code value spot s h handlers around most counts =
    jumping_counts h.over most (with_code (number_of code) value (outside h handlers spot)) s

handled_counts : (handlers : List Handler) (code : Code) (value : List ℕ) (spot : Spot)
    (s : Status) → Counts (again_of (Leaves code value)) (handled handlers code value spot s)
handled_counts [] code value spot s = omega arith
handled_counts (h ∷ handlers) code value spot s =
    led_counts (way_of h.covers code) code value spot s h handlers
    (handled handlers code value spot s) (again_of (Leaves code value))
    (handled_counts handlers code value spot s)

resumed_counts : (spot : Spot) (o : Outcome) (s : Status) →
    Counts (again_of o) (resumed spot o s)
resumed_counts spot (Gives value) s = tt
resumed_counts spot (Leaves code value) s = handled_counts spot.handlers code value spot s
resumed_counts spot (Stops stop) s = omega arith

-- an outcome that ends the code counts what it counted before
pub outcome_counts : {A : Type 0} (progress : Progress) (new : coded.Spot A) (spot : Spot)
    (o : Outcome) → ((s : Status) → did_of progress new s ≡ resumed spot o s) →
    progress ≡ went.Over → again_of (outcome_of new.outcome) ≤ again_of o
outcome_counts progress new spot o does over =
    let s = any_state in
    subst (Counts (again_of o))
    (sym (subst (λ it. did_of it new s ≡ resumed spot o s) over (does s)))
    (resumed_counts spot o s)

top_counts : (operands : List (List ℕ)) (s : Status) →
    Counts 0 (on_top operands (λ value below. Over (Gives value) s))
top_counts [] s = tt
top_counts (value ∷ below) s = omega arith

does_count : (most : ℕ) (did other : Did) → Counts most did → Does did other → Counts most other
does_count most did other counts it_does.same = counts
does_count most (Reads text next) other counts (it_does.reads tree is does) = absurd counts

-- after the last instruction the value on top is the outcome
pub end_counts : {A : Type 0} (it : Option (Instruction A)) (spot : Spot) (s : Status)
    (did : Did) → it ≡ None → Does (machine it spot s) did → Counts 0 did
end_counts it spot s did none does =
    does_count 0 (machine it spot s) did
    (subst (λ it. Counts 0 (machine it spot s)) (sym none) (top_counts spot.operands s)) does

-- a value leads on
pub value_idle : {A : Type 0} (said : ℕ) (code : List (Instruction A)) (progress : Progress)
    (new old : coded.Spot A) (outcome : Result (List ℕ) (Leave A)) → IsValue outcome →
    ((s : Status) → did_of progress new s ≡ resumed (spot_of old) (outcome_of outcome) s) →
    IsIdle said code progress new
value_idle said code went.GoesOn new old outcome is does = tt
value_idle said code went.Begins new old outcome is does =
    leads_nowhere went.Begins new (spot_of old) (outcome_of outcome) does tt
value_idle said code went.Says new old outcome is does =
    absurd (leads_nowhere went.Says new (spot_of old) (outcome_of outcome) does tt)
value_idle said code went.Runs new old outcome is does =
    leads_nowhere went.Runs new (spot_of old) (outcome_of outcome) does tt
value_idle said code went.Evaluates new old outcome is does =
    leads_nowhere went.Evaluates new (spot_of old) (outcome_of outcome) does tt
value_idle said code went.Over new old (Ok value) is does =
    let counts = outcome_counts went.Over new (spot_of old) (Gives value) does refl in
    omega (arith, counts)
value_idle said code went.Over new old (Err leave) is does = absurd is
value_idle said code went.Stuck new old outcome is does = tt

-- the words by which branches are given are no part of that
pub idle_stays : {A : Type 0} (said : ℕ) (code : List (Instruction A)) (progress : Progress)
    (old new : coded.Spot A) → new.place ≡ old.place →
    (progress ≡ went.Over → new.outcome ≡ old.outcome) → IsIdle said code progress old →
    IsIdle said code progress new
idle_stays said code went.GoesOn old new place over idle = tt
idle_stays said code went.Begins old new place over idle = absurd idle
idle_stays said code went.Says old new place over idle =
    (idle.0, subst (λ n. slice_get code n ≡ None) (sym place) idle.1)
idle_stays said code went.Runs old new place over idle = absurd idle
idle_stays said code went.Evaluates old new place over idle = absurd idle
idle_stays {A = A} said code went.Over old new place over idle =
    subst (λ (o : Result (List ℕ) (Leave A)). again_of (outcome_of o) ≡ 0) (sym (over refl)) idle
idle_stays said code went.Stuck old new place over idle = tt

-- an outcome counts less than two for each place that is left, where none comes after the last one
pub places_bound : (size place again : ℕ) → again ≤ 1 → (size ≤ place → again ≡ 0) →
    again ≤ 2 * (size - place)
places_bound zero place again small none = let is = none (omega arith) in omega (arith, is)
places_bound (suc size) zero again small none = omega (arith, small)
places_bound (suc size) (suc place) again small none =
    let rest = places_bound size place again small (λ past. none (omega (arith, past))) in
    omega (arith, rest)
