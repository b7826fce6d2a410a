-- The handlers of what is open.
use Rattle.std.proofs.Common.{◌≡◌, ◌∙◌, Bool, true, false, List, [], ◌∷◌, ◌++◌, ℕ, Option, None, Some, length, map, option_to_list, refl, sym, ap, subst, if◌then◌else◌}
use Rattle.std.specs.Prelude.{nat_le, reverse}
use Rattle.std.proofs.lemmas.List.{map-append, nil_from_length, reverse-append}
use Rattle.nesting.specs.Catch.{number_of}
use Rattle.state.specs.Prelude.{Code, Gives, Leaves, Outcome, Status, Stops}
use Rattle.steps.specs.Handling.{handled, led, outside, resumed, way_of, with_code}
use Rattle.steps.specs.Moves.{jumping}
use Rattle.steps.specs.Spot.{Begins, Did, Evaluates, Handler, Over, Runs, Says, Spot, Stuck, Went, with_top}
use Rattle.runs.specs.Run.{initial}
use Rattle.steps.specs.View.{IsCall, did_of, handler_of}
use Rattle.steps.specs.declared.handler.Handler as opened
use Rattle.steps.specs.declared.handler.Way.{Way}
use Rattle.steps.specs.declared.handler.Way.TheVariants as way
use Rattle.steps.specs.declared.progress.Progress.{Progress}
use Rattle.steps.specs.declared.progress.Progress.TheVariants as went
use Rattle.steps.specs.declared.spot.Spot as coded

-- a handler was put on top
pub one_put : (old new : List opened.Handler) (h : opened.Handler) → new ≡ old ++ h ∷ [] →
    reverse (map handler_of new) ≡ handler_of h ∷ reverse (map handler_of old)
one_put old new h is =
    ap (λ hs. reverse (map handler_of hs)) is
    ∙ ap reverse (map-append handler_of old (h ∷ []))
    ∙ reverse-append (map handler_of old) (handler_of h ∷ [])

-- a handler was taken off
pub one_taken : (old new : List opened.Handler) (taken : Option opened.Handler)
    (h : opened.Handler) → old ≡ new ++ option_to_list taken → taken ≡ Some h →
    reverse (map handler_of old) ≡ handler_of h ∷ reverse (map handler_of new)
one_taken old new taken h is some =
    one_put new old h (is ∙ ap (λ o. new ++ option_to_list o) some)

module _ (code : Code) (value : List ℕ) (s : Status) where
  led_so : (w : Option Way) (h : Handler) (handlers others : List Handler) (spot : Spot)
      (one other : Did) → one ≡ other →
      led w code value (record spot { handlers = others }) s h handlers one
      ≡ led w code value spot s h handlers other
  led_so None h handlers others spot one other same = same
  led_so (Some way.Out) h handlers others spot one other same = refl
  led_so (Some (way.End end)) h handlers others spot one other same = refl
  led_so (Some way.Caught) h handlers others spot one other same = refl

  -- where handlers lead depends on the operands and the marks alone
  pub handled_alike : (handlers others : List Handler) (spot : Spot) →
      handled handlers code value (record spot { handlers = others }) s
      ≡ handled handlers code value spot s
  handled_alike [] others spot = refl
  handled_alike (h ∷ handlers) others spot =
      led_so (way_of h.covers code) h handlers others spot _ _ (handled_alike handlers others spot)

  -- one that passes the outcome on
  pub passed_by : (handlers rest : List Handler) (h : Handler) (spot : Spot) →
      handlers ≡ h ∷ rest → way_of h.covers code ≡ None →
      handled handlers code value spot s ≡ handled rest code value spot s
  passed_by handlers rest h spot is passes =
      ap (λ hs. handled hs code value spot s) is
      ∙ ap (λ w. led w code value spot s h rest (handled rest code value spot s)) passes

  -- what is around one that takes it does not matter
  whatever : (w : Way) (h : Handler) (handlers : List Handler) (spot : Spot) (one other : Did) →
      led (Some w) code value spot s h handlers one ≡ led (Some w) code value spot s h handlers other
  whatever way.Out h handlers spot one other = refl
  whatever (way.End end) h handlers spot one other = refl
  whatever way.Caught h handlers spot one other = refl

  -- one that takes it
  pub taken_by : (handlers rest : List Handler) (h : Handler) (w : Way) (spot : Spot) →
      handlers ≡ h ∷ rest → way_of h.covers code ≡ Some w →
      led (Some w) code value (record spot { handlers = rest }) s h rest Stuck
      ≡ handled handlers code value spot s
  taken_by handlers rest h w spot is takes =
      led_so (Some w) h rest rest spot Stuck Stuck refl
      ∙ whatever w h rest spot Stuck (handled rest code value spot s)
      ∙ sym (ap (λ hs. handled hs code value spot s) is
      ∙ ap (λ o. led o code value spot s h rest (handled rest code value spot s)) takes)

  -- none is left
  pub none_left : (handlers : List opened.Handler) (spot : Spot) → length handlers ≡ 0 →
      Over (Leaves code value) s ≡ handled (reverse (map handler_of handlers)) code value spot s
  none_left handlers spot none =
      sym (ap (λ hs. handled (reverse (map handler_of hs)) code value spot s)
      (nil_from_length handlers none))

-- something begins by words, or by a text
abbrev IsBegun : Did → Type 0
IsBegun (Begins words spot s) = Unit {0}
IsBegun (Says words spot s) = Unit {0}
IsBegun (Runs text levels spot s) = Unit {0}
IsBegun (Evaluates text spot s) = Unit {0}
IsBegun did = ⊥

call_begins : {A : Type 0} (progress : Progress) (spot : coded.Spot A) (s : Status) →
    IsCall progress → IsBegun (did_of progress spot s)
call_begins went.GoesOn spot s is = absurd is
call_begins went.Begins spot s is = tt
call_begins went.Says spot s is = tt
call_begins went.Runs spot s is = tt
call_begins went.Evaluates spot s is = tt
call_begins went.Over spot s is = absurd is
call_begins went.Stuck spot s is = absurd is

jumped : (b : Bool) (spot : Spot) (s : Status) →
    IsBegun (if b then Went spot s else Stuck) → ⊥
jumped true spot s begun = begun
jumped false spot s begun = begun

jumps : (place : ℕ) (spot : Spot) (s : Status) → IsBegun (jumping place spot s) → ⊥
jumps place spot s = jumped (nat_le spot.place place) (record spot { place = place }) s

led_nowhere : (w : Option Way) (code : Code) (value : List ℕ) (spot : Spot) (s : Status)
    (h : Handler) (handlers : List Handler) (around : Did) → (IsBegun around → ⊥) →
    IsBegun (led w code value spot s h handlers around) → ⊥
led_nowhere None code value spot s h handlers around none begun = none begun
led_nowhere (Some way.Out) code value spot s h handlers around none begun =
    jumps h.over (outside h handlers spot) s begun
led_nowhere (Some (way.End end)) code value spot s h handlers around none begun =
    jumps end (with_top [] (outside h (h ∷ handlers) spot)) s begun
led_nowhere (Some way.Caught) code value spot s h handlers around none begun =
    jumps h.over (with_code (number_of code) value (outside h handlers spot)) s begun

handled_nowhere : (handlers : List Handler) (code : Code) (value : List ℕ) (spot : Spot)
    (s : Status) → IsBegun (handled handlers code value spot s) → ⊥
handled_nowhere [] code value spot s begun = begun
handled_nowhere (h ∷ handlers) code value spot s begun =
    led_nowhere (way_of h.covers code) code value spot s h handlers
    (handled handlers code value spot s)
    (λ b. handled_nowhere handlers code value spot s b) begun

-- where an outcome leads nothing begins
none_begins : (spot : Spot) (outcome : Outcome) (s : Status) →
    IsBegun (resumed spot outcome s) → ⊥
none_begins spot (Gives value) s begun = begun
none_begins spot (Leaves code value) s begun =
    handled_nowhere spot.handlers code value spot s begun
none_begins spot (Stops stop) s begun = begun

-- where the code does what an outcome leads to, whatever the state, nothing begins
pub leads_nowhere : {A : Type 0} (progress : Progress) (new : coded.Spot A) (spot : Spot)
    (outcome : Outcome) → ((s : Status) → did_of progress new s ≡ resumed spot outcome s) →
    IsCall progress → ⊥
leads_nowhere progress new spot outcome does is =
    let s = initial [] 0 in
    none_begins spot outcome s (subst IsBegun (does s) (call_begins progress new s is))
