-- A script that runs one level deeper.
use Rattle.std.proofs.Common.{◌≡◌, ℕ, zero, suc, ◌+◌, ◌≤◌, List, [], ◌∷◌, refl, subst, arith}
use Rattle.std.specs.Prelude.{slice_get}
use Rattle.acts.specs.Flaw as flaw
use Rattle.code.specs.Code.{BodyAt, deeper, by_text}
use Rattle.code.specs.declared.instruction.Instruction.{Instruction}
use Rattle.code.specs.declared.instruction.Instruction.TheVariants as i
use Rattle.nesting.specs.Conditional.{passes}
use Rattle.plan.specs.Plan.{and_then, onward}
use Rattle.runs.proofs.Trees.{has_tree, one_tree}
use Rattle.state.specs.Piece.{IsTree, ScriptText}
use Rattle.state.specs.Prelude.{Course, Dialogue, inside, Outcome, ScriptTree, Status, within}
use Rattle.steps.specs.Follows.{Comes, Follows, Waits, run_by}
use Rattle.steps.specs.Goes.{here, calls, reads}
use Rattle.steps.specs.Handling.{fails}
use Rattle.steps.specs.Layout.{EntersAt, FramesAt, body_code, body_text}
use Rattle.steps.specs.Machine.{machine}
use Rattle.steps.specs.Places.{Has, Enters, Frame, Rest, Body, beneath, brackets, handlers_beneath, left_of, marks_beneath, onward_of, spot_at}
use Rattle.steps.proofs.Leads.Above.{those}
use Rattle.steps.proofs.Leads.Forwards.{enters_grow}
use Rattle.steps.proofs.Leads.Resumed.{amid_operands, failure_leads, outcome_leads, spot_below}
use Rattle.steps.proofs.Leads.Standing.{by, sooner, stands}

-- what follows a script may be done once its outcome has passed
pub inside_passes : {X : Type 0} (levels : ℕ) (tree : ScriptTree) (s : Status)
    (next : Status → Outcome → Course) (last : Status → Outcome → Dialogue X) →
    and_then (inside levels tree s next) (onward last)
    ≡ and_then (inside levels tree s passes) (onward (λ t o. and_then (next t o) (onward last)))
inside_passes zero tree s next last = refl
inside_passes (suc levels) tree s next last = refl

-- what a body is read as, and where that stands
pub record Read {A : Type 0} (code : List (Instruction A)) (place : ℕ) (body : List ℕ) (end : ℕ) :
    Type 0 where
  pub tree : ScriptTree
  pub is : IsTree (ScriptText body) tree
  pub at : EntersAt code place tree end

pub body_read : {A : Type 0} (code : List (Instruction A)) {place : ℕ} {body : List ℕ} {end : ℕ} →
    BodyAt code place body end → Read code place body end
body_read code (deeper {mid = mid} {leave = leave} {after = after} {cs = cs} {f = f} is enters
    commands ends leaves) =
    record {
      tree = record { commands = cs; fault = f };
      is = is;
      at = body_code (record {
        after = after;
        enters = enters;
        stop = leave;
        script = record { mid = mid; commands = commands; ends = ends };
        leaves = leaves;
        ends = refl;
      });
    }
body_read code (by_text {body = body} at) =
    let tree = has_tree (ScriptText body) in
    record { tree = tree.0; is = tree.1; at = body_text at tree.1 }

module _ {A X : Type 0} (code : List (Instruction A)) (last : Status → Outcome → Dialogue X) where
  -- a body begins: its text is read
  pub body_begins : (place levels : ℕ) (body : List ℕ) (fs : List Frame) (end : ℕ) (s : Status) →
      BodyAt code place body end → FramesAt code end fs → levels + brackets fs ≤ 255 →
      Comes code last (record {
        place = place;
        operands = beneath fs;
        marks = marks_beneath fs;
        levels = levels;
        handlers = handlers_beneath levels fs;
      }) s (and_then (within levels body s passes) (onward (onward_of last levels fs)))
  body_begins place levels body fs end s at behind fits =
      let read = body_read code at in
      sooner code last _ s (reads {text = ScriptText body} read.tree read.is here)
      (stands code last place levels (Enters read.tree) fs end s read.at behind fits)

  -- the error that no level is left
  none_left : (tree : ScriptTree) (fs : List Frame) (s : Status) (place end : ℕ) →
      EntersAt code place tree end → FramesAt code end fs → 0 + brackets fs ≤ 255 →
      Follows code last (fails flaw.TooManyNested (spot_below code last (place + 1) zero fs) s)
      (left_of last zero (Enters tree) fs s)
  none_left tree fs s place end at behind fits =
      failure_leads code last flaw.TooManyNested (spot_below code last (place + 1) zero fs) zero fs s
      (amid_operands code last (place + 1) zero end (beneath fs) fs (those [] (beneath fs))
      (omega (arith, enters_grow code place tree end at)) behind fits)

  -- the script of a text runs, and its outcome is passed on
  text_runs : (levels : ℕ) (tree : ScriptTree) (fs : List Frame) (s : Status) (place : ℕ) →
      FramesAt code (place + 1) fs → suc levels + brackets fs ≤ 255 →
      Waits code last (run_by tree levels s) (spot_below code last (place + 1) (suc levels) fs)
      (left_of last (suc levels) (Enters tree) fs s)
  text_runs levels tree fs s place behind fits = record {
    next = onward_of last (suc levels) fs;
    goes = here;
    resumes = λ t outcome. outcome_leads code last (place + 1) (suc levels) fs t behind fits outcome;
  }

  -- its script begins, where a level is left
  pub enters_leads : (levels : ℕ) (tree : ScriptTree) (fs : List Frame) (s : Status)
      (place end : ℕ) → EntersAt code place tree end → FramesAt code end fs →
      levels + brackets fs ≤ 255 →
      Follows code last
      (machine (slice_get code place) (spot_at place levels (Enters tree) fs) s)
      (left_of last levels (Enters tree) fs s)
  enters_leads zero tree fs s place end (body_code at) behind fits =
      by code last (i.Body at.after) (spot_at place zero (Enters tree) fs) s _ at.enters
      (none_left tree fs s place end (body_code at) behind fits)
  enters_leads zero tree fs s place end (body_text {after = after} {text = text} at is) behind fits =
      by code last (i.Run text after) (spot_at place zero (Enters tree) fs) s _ at
      (none_left tree fs s place end (body_text at is) behind fits)
  enters_leads (suc levels) tree fs s place end (body_text {after = after} {text = text} at is) behind
      fits =
      by code last (i.Run text after) (spot_at place (suc levels) (Enters tree) fs) s _ at
      (λ read read_is. subst (λ it. Waits code last (run_by it levels s)
      (spot_below code last (place + 1) (suc levels) fs) (left_of last (suc levels) (Enters tree) fs s))
      (one_tree (ScriptText text) tree read is read_is) (text_runs levels tree fs s place behind fits))
  enters_leads (suc levels) tree fs s place end (body_code at) behind fits =
      by code last (i.Body at.after) (spot_at place (suc levels) (Enters tree) fs) s _ at.enters
      (sooner code last _ s (calls here)
      (stands code last (place + 1) levels (Has []) (Rest tree.commands tree.fault ∷ Body ∷ fs)
      (place + 1) s refl
      (at.stop, at.script, (at.leaves, subst (λ n. FramesAt code n fs) at.ends behind))
      (omega (arith, fits))))
