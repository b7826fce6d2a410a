-- How much may begin by a code before the next tick, and how deep it may stand meanwhile.
use Rattle.std.proofs.Common.{◌≡◌, ◌∙◌, ℕ, ◌+◌, ◌-◌, ◌*◌, ◌<◌, ◌≤◌, List, Bool, true, false, Option, Some, None, Result, Vec, refl, ap, arith, if◌then◌else◌}
use Rattle.code.specs.Doing.{are_still}
use Rattle.code.specs.declared.made.Entry.{Entry}
use Rattle.code.specs.declared.made.Entry.TheVariants as entry
use Rattle.machine.specs.Below.{EntersLess, IsOpen, TicksFirst, begins_in, begins_left, depth, height, left_to_run, places_in, rest_of, takes_of, waits_in}
use Rattle.machine.specs.Frames.{stack, weight, weight_in, words_in}
use Rattle.machine.specs.declared.frame.Frame.{Frame}
use Rattle.machine.specs.declared.running.Led.{Led}
use Rattle.machine.specs.declared.running.Led.TheVariants as led
use Rattle.machine.specs.declared.running.Running.{Running}
use Rattle.state.specs.declared.outcome.Leave.{Leave}
use Rattle.steps.specs.Run.{IsBegun, IsFresh, places_left}
use Rattle.steps.specs.declared.run.Run.{Run}

-- something begins, or is done, or a text is read, by each entry
pub some_weight : {A : Type 0} (it : Entry A) → 1 ≤ weight_in it
some_weight (entry.Made it) = omega arith
some_weight (entry.Argument words) = omega arith
some_weight (entry.Does doing) = omega arith

choice_false : (b : Bool) (n : ℕ) → b ≡ false → (if b then 0 else n) ≡ n
choice_false b n is = rw is refl

choice_true : (b : Bool) (n : ℕ) → b ≡ true → (if b then 0 else n) ≡ 0
choice_true b n is = rw is refl

module _ {A : Type 0} where
  -- none where no command begins
  pub still_left : (run : Run A) → are_still run.code.value.items ≡ true → begins_left run ≡ 0
  still_left run is = choice_true (are_still run.code.value.items) (2 * places_left run) is

  busy_left : (run : Run A) → are_still run.code.value.items ≡ false →
      begins_left run ≡ 2 * places_left run
  busy_left run is = choice_false (are_still run.code.value.items) (2 * places_left run) is

  by_kind : (b : Bool) (run : Run A) → are_still run.code.value.items ≡ b →
      begins_left run ≤ 2 * places_left run
  by_kind true run is = let none = still_left run is in omega (arith, none)
  by_kind false run is = let all = busy_left run is in omega (arith, all)

  -- and none where no place is left
  pub left_none : (run : Run A) → places_left run ≡ 0 → begins_left run ≡ 0
  left_none run none =
      let most = by_kind (are_still run.code.value.items) run refl in omega (arith, none, most)

  onward_by : (b : Bool) (old new : Run A) →
      new.code.value.items ≡ old.code.value.items → are_still old.code.value.items ≡ b →
      places_left new ≤ places_left old → begins_left new ≤ begins_left old
  onward_by true old new same is fewer =
      let none = still_left new (ap are_still same ∙ is) in omega (arith, none)
  onward_by false old new same is fewer =
      let some = busy_left new (ap are_still same ∙ is) in
      let all = busy_left old is in
      omega (arith, some, all, fewer)

  -- further on no more may begin
  pub left_onward : (old new : Run A) → new.code.value.items ≡ old.code.value.items →
      places_left new < places_left old → begins_left new ≤ begins_left old
  left_onward old new same fewer =
      onward_by (are_still old.code.value.items) old new same refl (omega (arith, fewer))

  calls_by : (b : Bool) (old new : Run A) →
      new.code.value.items ≡ old.code.value.items → are_still old.code.value.items ≡ b →
      (are_still old.code.value.items ≡ true → ⊥) →
      places_left new < places_left old → 2 + begins_left new ≤ begins_left old
  calls_by true old new same is never fewer = absurd (never is)
  calls_by false old new same is never fewer =
      let some = busy_left new (ap are_still same ∙ is) in
      let all = busy_left old is in
      omega (arith, some, all, fewer)

  -- and where a command began, two less
  pub left_called : (old new : Run A) → new.code.value.items ≡ old.code.value.items →
      (are_still old.code.value.items ≡ true → ⊥) →
      places_left new < places_left old → 2 + begins_left new ≤ begins_left old
  left_called old new same never fewer =
      calls_by (are_still old.code.value.items) old new same refl never fewer

  ended_by : (b : Bool) (run : Run A) (again first : ℕ) → are_still run.code.value.items ≡ b →
      (are_still run.code.value.items ≡ true → again ≤ first) →
      again ≤ first + 2 * places_left run → again ≤ first + begins_left run
  ended_by true run again first is quiet most = let few = quiet is in omega (arith, few)
  ended_by false run again first is quiet most =
      let all = busy_left run is in omega (arith, all, most)

  -- the outcome that ends a code counts among what may begin by it
  pub left_ended : (run : Run A) (again first : ℕ) →
      (are_still run.code.value.items ≡ true → again ≤ first) →
      again ≤ first + 2 * places_left run → again ≤ first + begins_left run
  left_ended run again first quiet most =
      ended_by (are_still run.code.value.items) run again first refl quiet most

  -- a code of which nothing is done yet, that was entered with a value
  pub enters_less : (it : Entry A) (old new : Run A) (l : Led A) → IsBegun it old →
      ((said : ℕ) → IsFresh said old → TicksFirst said l new) →
      left_to_run l new ≤ begins_left old → EntersLess it l new
  enters_less (entry.Made it) old new (led.Over outcome) begun first most = first 0 begun
  enters_less (entry.Made it) old new (led.Has outcome) begun first most = absurd (first 0 begun)
  enters_less (entry.Made it) old new (led.Begins n) begun first most =
      let none = first 0 begun in absurd (omega (arith, none.0))
  enters_less (entry.Argument words) old new (led.Over outcome) begun first most = first 1 begun
  enters_less (entry.Argument words) old new (led.Has outcome) begun first most =
      absurd (first 1 begun)
  enters_less (entry.Argument words) old new (led.Begins n) begun first most =
      let said = first 1 begun in
      let none = left_none new said.2 in
      omega (arith, said.1, none)
  enters_less (entry.Does doing) old new (led.Over outcome) begun first most =
      let none = still_left old begun.still in omega (arith, none, most)
  enters_less (entry.Does doing) old new (led.Has outcome) begun first most =
      let none = still_left old begun.still in omega (arith, none, most)
  enters_less (entry.Does doing) old new (led.Begins n) begun first most =
      let none = still_left old begun.still in absurd (omega (arith, none, most))

  -- and how many places it has
  pub enters_short : (it : Entry A) (old new : Run A) (outcome : Result (List ℕ) (Leave A)) →
      IsBegun it old → ((said : ℕ) → IsFresh said old → TicksFirst said (led.Has outcome) new) →
      places_left new < places_left old → 3 * places_left new + 6 ≤ 2 * weight_in it
  enters_short (entry.Made it) old new outcome begun first fewer = absurd (first 0 begun)
  enters_short (entry.Argument words) old new outcome begun first fewer = absurd (first 1 begun)
  enters_short (entry.Does doing) old new outcome begun first fewer =
      omega (arith, fewer, begun.short)

  takes_some : (code : Option (Run A)) → 3 * places_in code ≤ takes_of code
  takes_some None = omega arith
  takes_some (Some run) = omega arith

  -- how often an outcome may be handed on above a code that was entered and waits for a text
  pub open_deep : (old new : Running A) (run : Run A) (frames : Vec (Frame A) A) (more : ℕ) →
      IsOpen old run frames new → weight (stack frames) ≤ 1 →
      3 * places_left run + 6 ≤ more → depth new < more + depth old
  open_deep old new run frames more is light few =
      let above = ap (λ fs. weight (stack fs)) is.1 in
      let code = ap takes_of is.2 in
      let parts = ap height is.0 in
      let takes = takes_some old.code in
      omega (arith, above, code, parts, takes, light, few)

  -- and how much may begin then
  pub open_less : (old new : Running A) (run : Run A) (frames : Vec (Frame A) A) →
      IsOpen old run frames new →
      rest_of new ≡ words_in (stack frames) + begins_left run + rest_of old
  open_less old new run frames is =
      let above = ap (λ fs. words_in (stack fs)) is.1 in
      let code = ap begins_in is.2 in
      let parts = ap waits_in is.0 in
      omega (arith, above, code, parts)
