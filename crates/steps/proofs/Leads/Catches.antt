-- A catch: its script begins, its script is over, and what it ended with is kept.
use Rattle.std.proofs.Common.{◌≡◌, ℕ, ◌+◌, ◌≤◌, List, [], ◌∷◌, true, Option, None, Some, is_some, refl, sym, ap, subst, arith}
use Rattle.std.specs.Prelude.{decimal, slice_get}
use Rattle.nesting.specs.Catch.{catch, caught}
use Rattle.code.specs.Code.{At, BodyAt, IsTaker, TakenAt, dropped, no_taker, taken, taker}
use Rattle.code.specs.declared.instruction.Instruction.{Instruction}
use Rattle.code.specs.declared.instruction.Instruction.TheVariants as i
use Rattle.plan.specs.Plan.{and_then, onward}
use Rattle.state.specs.Piece.{ScriptText}
use Rattle.state.specs.Prelude.{Course, Dialogue, gives, Outcome, ScriptTree, Status, within}
use Rattle.state.specs.Variables.{on_name}
use Rattle.steps.specs.Follows.{Comes, Follows}
use Rattle.steps.specs.Goes.{here, reads}
use Rattle.steps.specs.Layout.{EntersAt, FramesAt}
use Rattle.steps.specs.Machine.{machine}
use Rattle.steps.specs.Places.{Has, Enters, Tries, Stores, Frame, Catches, beneath, brackets, left_of, onward_of, spot_at}
use Rattle.steps.proofs.Leads.Above.{those}
use Rattle.steps.proofs.Leads.Bodies.{body_read, inside_passes}
use Rattle.steps.proofs.Leads.Meanings.{below_at}
use Rattle.steps.proofs.Leads.Resumed.{amid_operands}
use Rattle.steps.proofs.Leads.Silent.{same_goes}
use Rattle.steps.proofs.Leads.Standing.{by, sooner, stands}
use Rattle.steps.proofs.Leads.Stores.{stores_lead}
use Rattle.tclparse.specs.Variable.{named}

-- a word that names a variable leads on
named_so : (n : Option (List ℕ × Option (List ℕ))) (s : Status) (course : Course) →
    is_some n ≡ true → on_name n s (λ name index. course) ≡ course
named_so None s course none = absurd (cc)
named_so (Some n) s course some = refl

-- the words after the script are those of a variable, or none
catch_is : (levels : ℕ) (text : List ℕ) (variable : Option (List ℕ)) (more : List (List ℕ))
    (s : Status) → IsTaker variable more →
    catch levels (text ∷ more) s ≡ within levels text s (caught variable)
catch_is levels text variable more s no_taker = refl
catch_is levels text variable more s (taker {word = word} some) =
    named_so (named word) s (within levels text s (caught (Some word))) some

module _ {A X : Type 0} (code : List (Instruction A)) (last : Status → Outcome → Dialogue X) where
  -- its variable takes the value, or there is none
  pub kept_leads : (levels : ℕ) (fs : List Frame) (s : Status) (variable : Option (List ℕ))
      (number : ℕ) (value : List ℕ) (place end : ℕ) → TakenAt code place variable end →
      FramesAt code end fs → levels + brackets fs ≤ 255 →
      Follows code last
      (machine (slice_get code place) (spot_at place levels (Stores variable number value) fs) s)
      (left_of last levels (Stores variable number value) fs s)
  kept_leads levels fs s variable number value place end (dropped at) behind fits =
      by code last i.Discard (spot_at place levels (Stores None number value) fs) s _ at
      (stands code last (place + 1) levels (Has (decimal number)) fs (place + 1) s refl behind fits)
  kept_leads levels fs s variable number value place end (taken {word = word} at) behind fits =
      let operands = decimal number ∷ beneath fs in
      by code last (i.Store word) (spot_at place levels (Stores (Some word) number value) fs) s _ at
      (stores_lead code last (named word) value
      (spot_at (place + 1) levels (Has (decimal number)) fs) levels fs s
      (amid_operands code last (place + 1) levels (place + 1) operands fs
      (those (decimal number ∷ []) (beneath fs)) (omega arith) behind fits)
      (λ t. gives (decimal number) t)
      (λ t. stands code last (place + 1) levels (Has (decimal number)) fs (place + 1) t refl behind
      fits))

  -- its script is over
  pub caught_over : (levels : ℕ) (fs : List Frame) (s : Status) (v : List ℕ)
      (variable : Option (List ℕ)) (place ends end : ℕ) → At code place i.EndCatch →
      place ≡ ends → TakenAt code (ends + 1) variable end → FramesAt code end fs →
      levels + brackets fs ≤ 255 →
      Follows code last
      (machine (slice_get code place) (spot_at place levels (Has v) (Catches variable ends ∷ fs)) s)
      (left_of last levels (Has v) (Catches variable ends ∷ fs) s)
  caught_over levels fs s v variable place ends end ended is takes behind fits =
      by code last i.EndCatch (spot_at place levels (Has v) (Catches variable ends ∷ fs)) s _ ended
      (stands code last (place + 1) levels (Stores variable 0 v) fs end s
      (subst (λ n. TakenAt code (n + 1) variable end) (sym is) takes) behind fits)

  -- its script begins
  pub tries_lead : (levels : ℕ) (fs : List Frame) (s : Status) (tree : ScriptTree)
      (variable : Option (List ℕ)) (place ends end : ℕ) → At code place (i.Catch (ends + 1)) →
      EntersAt code (place + 1) tree ends → At code ends i.EndCatch →
      TakenAt code (ends + 1) variable end → FramesAt code end fs → levels + brackets fs ≤ 255 →
      Follows code last
      (machine (slice_get code place) (spot_at place levels (Tries tree variable) fs) s)
      (left_of last levels (Tries tree variable) fs s)
  tries_lead levels fs s tree variable place ends end begins enters ended takes behind fits =
      by code last (i.Catch (ends + 1)) (spot_at place levels (Tries tree variable) fs) s _ begins
      (sooner code last _ s
      (same_goes (inside_passes levels tree s (caught variable) (onward_of last levels fs)))
      (stands code last (place + 1) levels (Enters tree) (Catches variable ends ∷ fs) ends s enters
      (end, ended, refl, takes, behind) fits))

  -- its script is read
  pub caught_begins : (levels : ℕ) (fs : List Frame) (s : Status) (place mid : ℕ)
      (text : List ℕ) (variable : Option (List ℕ)) (end : ℕ) → At code place (i.Catch (mid + 1)) →
      BodyAt code (place + 1) text mid → At code mid i.EndCatch →
      TakenAt code (mid + 1) variable end → FramesAt code end fs → levels + brackets fs ≤ 255 →
      Comes code last (below_at code last place levels [] fs) s
      (and_then (within levels text s (caught variable)) (onward (onward_of last levels fs)))
  caught_begins levels fs s place mid text variable end begins body_at ended takes behind fits =
      let read = body_read code body_at in
      sooner code last _ s (reads {text = ScriptText text} read.tree read.is here)
      (stands code last place levels (Tries read.tree variable) fs end s
      (mid, begins, read.at, ended, takes) behind fits)

  -- catch begins
  pub catch_begins : (levels : ℕ) (fs : List Frame) (s : Status) (place mid : ℕ)
      (text : List ℕ) (variable : Option (List ℕ)) (more : List (List ℕ)) (end : ℕ) →
      IsTaker variable more → At code place (i.Catch (mid + 1)) → BodyAt code (place + 1) text mid →
      At code mid i.EndCatch → TakenAt code (mid + 1) variable end → FramesAt code end fs →
      levels + brackets fs ≤ 255 →
      Comes code last (below_at code last place levels [] fs) s
      (and_then (catch levels (text ∷ more) s) (onward (onward_of last levels fs)))
  catch_begins levels fs s place mid text variable more end words begins body_at ended takes behind
      fits =
      sooner code last _ s
      (same_goes (ap (λ c. and_then c (onward (onward_of last levels fs)))
      (catch_is levels text variable more s words)))
      (caught_begins levels fs s place mid text variable end begins body_at ended takes behind fits)
