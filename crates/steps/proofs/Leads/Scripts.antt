-- A value on top: the rest of a script follows, or a script in brackets is over.
use Rattle.std.proofs.Common.{ℕ, suc, ◌+◌, ◌≤◌, List, [], ◌∷◌, Option, refl, sym, subst, arith, if◌then◌else◌}
use Rattle.std.proofs.lemmas.Bool.{lt-leb}
use Rattle.std.specs.Prelude.{slice_get}
use Rattle.code.specs.Code.{CommandsAt, done, next, FaultAt, none, fault}
use Rattle.code.specs.Doing.{Doing}
use Rattle.code.specs.declared.instruction.Instruction.{Instruction}
use Rattle.code.specs.declared.instruction.Instruction.TheVariants as i
use Rattle.runs.specs.Commands.{command}
use Rattle.state.specs.Faults.{flaw_of_fault}
use Rattle.state.specs.Prelude.{Dialogue, Gives, Outcome, Status}
use Rattle.steps.specs.Follows.{Follows}
use Rattle.steps.specs.Goes.{here, calls}
use Rattle.steps.specs.Layout.{FramesAt, formula_code}
use Rattle.steps.specs.Machine.{ahead, machine}
use Rattle.steps.specs.Places.{Has, Evaluates, Joins, Starts, Frame, Rest, Bracket, Body, Skip, Alone, Command, For, Turns, Elements, Catches, beneath, brackets, onward_of, spot_at}
use Rattle.steps.specs.Spot.{Went, Stuck}
use Rattle.steps.proofs.Leads.Above.{those}
use Rattle.steps.proofs.Leads.Catches.{caught_over}
use Rattle.steps.proofs.Leads.Doings.{doing_begins}
use Rattle.steps.proofs.Leads.Foreach.{round_over}
use Rattle.steps.proofs.Leads.Loops.{for_turns, part_over}
use Rattle.steps.proofs.Leads.Meanings.{jump_leads}
use Rattle.steps.proofs.Leads.Resumed.{amid_operands, failure_leads}
use Rattle.steps.proofs.Leads.Standing.{by, silently, stands, tick_leads}
use Rattle.tclparse.specs.Fault.{Fault}
use Rattle.tclparse.specs.Seen.{fault_of}
use Rattle.tclparse.specs.Formula.{Formula}
use Rattle.tclparse.specs.Tree.{Commands}
use Rattle.state.specs.Words.{words}
use Rattle.steps.specs.Word.{Open}

module _ {A X : Type 0} (code : List (Instruction A)) (last : Status → Outcome → Dialogue X) where
  -- a value on top leads on as these frames say
  abbrev pub ValueLeads : ℕ → ℕ → List Frame → List ℕ → Status → Type 0
  ValueLeads place levels frames value s =
      Follows code last (machine (slice_get code place) (spot_at place levels (Has value) frames) s)
      (onward_of last levels frames s (Gives value))

  -- the rest of a script: its next command, its fault, or its end
  rest_leads : (place mid end levels : ℕ) (cs : Commands) (f : Option Fault) (fs : List Frame)
      (v : List ℕ) (s : Status) → (FramesAt code end fs → ValueLeads end levels fs v s) →
      CommandsAt code place cs mid → FaultAt code f mid end → FramesAt code end fs →
      levels + brackets fs ≤ 255 → ValueLeads place levels (Rest cs f ∷ fs) v s
  rest_leads place mid end levels cs f fs v s over done none behind fits = over behind
  rest_leads place mid end levels cs f fs v s over done (fault {fault = why} at) behind fits =
      by code last (i.Fault why) (spot_at place levels (Has v) (Rest cs f ∷ fs)) s _ at
      (failure_leads code last (flaw_of_fault (fault_of why)) (spot_at (place + 1) levels (Has v) (Rest cs f ∷ fs)) levels fs s
      (amid_operands code last (place + 1) levels (place + 1) (v ∷ beneath fs) fs
      (those (v ∷ []) (beneath fs)) (omega arith) behind fits))
  rest_leads place mid end levels cs f fs v s over (next {mid = behind_words} {from_end = from_end}
      {ws = ws} {cs = more} at words_at rest) ends behind fits =
      by code last (i.Next from_end) (spot_at place levels (Has v) (Rest cs f ∷ fs)) s _ at
      (silently code last _ (calls here)
      (tick_leads code last s.left levels (Rest more f ∷ fs) s _ (λ t. words levels ws [] t (command
      levels))
      (λ t. stands code last (place + 1) levels (Starts ws) (Rest more f ∷ fs) behind_words t
      words_at (end, record { mid = mid; commands = rest; ends = ends }, behind) fits)))

  -- a script in brackets is over
  bracket_leads : (place levels : ℕ) (word : Open) (fs : List Frame) (v : List ℕ) (s : Status) →
      FramesAt code place (Bracket word ∷ fs) → levels + suc (brackets fs) ≤ 255 →
      ValueLeads place levels (Bracket word ∷ fs) v s
  bracket_leads place levels word fs v s at fits =
      let spot = spot_at place levels (Has v) (Bracket word ∷ fs) in
      let p = onward_of last levels (Bracket word ∷ fs) s (Gives v) in
      let went = Went (record (ahead spot) { levels = suc levels }) s in
      by code last i.Leave spot s p at.0
      (subst (λ b. Follows code last (if b then Stuck else went) p)
      (sym (lt-leb 255 levels (omega (arith, fits))))
      (stands code last (place + 1) (suc levels) (Joins v word) fs at.1.0 s at.1.1 at.1.2
      (omega (arith, fits))))

  -- a body is over
  body_leads : (place levels : ℕ) (fs : List Frame) (v : List ℕ) (s : Status) →
      FramesAt code place (Body ∷ fs) → levels + suc (brackets fs) ≤ 255 →
      ValueLeads place levels (Body ∷ fs) v s
  body_leads place levels fs v s at fits =
      let spot = spot_at place levels (Has v) (Body ∷ fs) in
      let p = onward_of last levels (Body ∷ fs) s (Gives v) in
      let went = Went (record (ahead spot) { levels = suc levels }) s in
      by code last i.Leave spot s p at.0
      (subst (λ b. Follows code last (if b then Stuck else went) p)
      (sym (lt-leb 255 levels (omega (arith, fits))))
      (stands code last (place + 1) (suc levels) (Has v) fs (place + 1) s refl at.1
      (omega (arith, fits))))

  -- the code goes on elsewhere
  skip_leads : (place levels : ℕ) (fs : List Frame) (v : List ℕ) (s : Status) →
      FramesAt code place (Skip ∷ fs) → levels + brackets fs ≤ 255 →
      ValueLeads place levels (Skip ∷ fs) v s
  skip_leads place levels fs v s at fits =
      by code last (i.Jump at.0) (spot_at place levels (Has v) (Skip ∷ fs)) s _ at.1
      (jump_leads code last at.0 _ s _ at.2
      (stands code last at.0 levels (Has v) fs at.0 s refl at.3 fits))

  -- the start of for is over
  start_leads : (place levels : ℕ) (test step body : List ℕ) (fs : List Frame) (v : List ℕ)
      (s : Status) → FramesAt code place (For test step body ∷ fs) → levels + brackets fs ≤ 255 →
      ValueLeads place levels (For test step body ∷ fs) v s
  start_leads place levels test step body fs v s at fits =
      by code last i.Discard (spot_at place levels (Has v) (For test step body ∷ fs)) s _ at.0
      (for_turns code last levels fs s v (place + 1) test step body at.1.0 at.1.1 at.1.2 fits)

  -- the value is dropped, and a formula evaluated
  alone_leads : (place levels : ℕ) (f : Formula) (fs : List Frame) (v : List ℕ) (s : Status) →
      FramesAt code place (Alone f ∷ fs) → levels + brackets fs ≤ 255 →
      ValueLeads place levels (Alone f ∷ fs) v s
  alone_leads place levels f fs v s at fits =
      by code last i.Discard (spot_at place levels (Has v) (Alone f ∷ fs)) s _ at.0
      (stands code last (place + 1) levels (Evaluates f []) fs at.1.0 s
      (at.1.0, formula_code at.1.1, refl) at.1.2 fits)

  -- the value is dropped, and what a command does begins
  command_leads : (place levels : ℕ) (doing : Doing) (fs : List Frame) (v : List ℕ) (s : Status) →
      FramesAt code place (Command doing ∷ fs) → levels + brackets fs ≤ 255 →
      ValueLeads place levels (Command doing ∷ fs) v s
  command_leads place levels doing fs v s at fits =
      by code last i.Discard (spot_at place levels (Has v) (Command doing ∷ fs)) s _ at.0
      (doing_begins code last levels fs s doing (place + 1) at.1.0 at.1.1 at.1.2 fits)

  -- each frame
  pub has_leads : (place levels : ℕ) (fs : List Frame) (v : List ℕ) (s : Status) →
      FramesAt code place fs → levels + brackets fs ≤ 255 → ValueLeads place levels fs v s
  has_leads place levels [] v s at fits =
      subst (λ o. Follows code last (machine o (spot_at place levels (Has v) []) s)
      (onward_of last levels [] s (Gives v))) (sym at) here
  has_leads place levels (Rest cs f ∷ fs) v s at fits =
      rest_leads place at.1.mid at.0 levels cs f fs v s
      (λ behind. has_leads at.0 levels fs v s behind fits) at.1.commands at.1.ends at.2 fits
  has_leads place levels (Bracket word ∷ fs) v s at fits =
      bracket_leads place levels word fs v s at fits
  has_leads place levels (Body ∷ fs) v s at fits = body_leads place levels fs v s at fits
  has_leads place levels (Skip ∷ fs) v s at fits = skip_leads place levels fs v s at fits
  has_leads place levels (Alone f ∷ fs) v s at fits = alone_leads place levels f fs v s at fits
  has_leads place levels (Command doing ∷ fs) v s at fits =
      command_leads place levels doing fs v s at fits
  has_leads place levels (For test step body ∷ fs) v s at fits =
      start_leads place levels test step body fs v s at fits
  has_leads place levels (Turns loop ends turn ∷ fs) v s at fits =
      part_over code last levels fs s v loop place ends turn at.0 at.1 at.2 fits
  has_leads place levels (Elements each elements ends turn ∷ fs) v s at fits =
      round_over code last levels fs s v each elements place ends turn at.0 at.1 at.2 fits
  has_leads place levels (Catches variable ends ∷ fs) v s at fits =
      caught_over code last levels fs s v variable place ends at.0 at.1 at.2 at.3 at.4 fits
