-- The value of the last word of a command that is one instruction is on top.
use Rattle.std.proofs.Common.{◌≡◌, ◌∙◌, ℕ, ◌+◌, ◌≤◌, List, [], ◌∷◌, ◌++◌, codes, Option, Some, None, Result, Ok, Err, refl, ap, subst, arith}
use Rattle.acts.specs.Flaw.{Flaw}
use Rattle.code.specs.Code.{At, IsDirect, adds_last, appends_last, increments_last, returns_last, sets_last}
use Rattle.code.specs.declared.instruction.Instruction.{Instruction}
use Rattle.kinds.specs.Kinds.{leaves, with_scopes}
use Rattle.kinds.specs.Readings.{Found, kept}
use Rattle.kinds.specs.Variables.{name_said, untroubled}
use Rattle.plan.specs.Plan.{and_then, onward}
use Rattle.runs.specs.Commands.{called, command}
use Rattle.state.specs.Prelude.{bind, Dialogue, gives, Leaves, Outcome, Return, Scopes, Status}
use Rattle.state.specs.Variables.{on_name, spelled, stored, writes}
use Rattle.steps.specs.Direct.{adding, appending, by_words, changed, incrementing, returning, setting}
use Rattle.steps.specs.Follows.{Follows}
use Rattle.steps.specs.Layout.{FramesAt}
use Rattle.steps.specs.Places.{Has, Part, Frame, beneath, brackets, handlers_beneath, marks_beneath, onward_of, spot_at}
use Rattle.steps.specs.Spot.{Spot}
use Rattle.steps.specs.Word.{Last}
use Rattle.steps.proofs.Leads.Above.{those}
use Rattle.steps.proofs.Leads.Parts.{PartLeads, opened}
use Rattle.steps.proofs.Leads.Resumed.{amid_operands, failure_leads, outcome_leads, resumes_so}
use Rattle.steps.proofs.Leads.Silent.{same_goes}
use Rattle.steps.proofs.Leads.Standing.{by, silently, stands}
use Rattle.steps.proofs.Leads.Stores.{stores_lead}
use Rattle.tclparse.specs.Tree.{no_parts, no_words}
use Rattle.tclparse.specs.Variable.{named}
use Rattle.tclstate.specs.Pairs.{found}
use Rattle.tclstate.specs.Procs.{Procedure}
use Rattle.tclstate.specs.Scopes.{Trouble, written}
use Rattle.variables.specs.Append.{append}
use Rattle.variables.specs.Incr.{incr}
use Rattle.variables.specs.Values.{puts}
use Rattle.state.specs.Words.{words}

-- a variable was written, or could not be
written_is : (r : Result Scopes Trouble) (name value : List ℕ) (s : Status) →
    leaves with_scopes (Found (kept s.scopes (bind (untroubled r name) (λ new. Ok (new, value))))) s
    ≡ stored r name s (λ t. gives value t)
written_is (Ok scopes) name value s = refl
written_is (Err trouble) name value s = refl

-- what set does is a write, and then its value
set_is : (n : Option (List ℕ × Option (List ℕ))) (value : List ℕ) (s : Status) →
    leaves with_scopes
    (Found (kept s.scopes (bind (name_said n) (λ m. puts m.0 m.1 value s.scopes)))) s
    ≡ on_name n s (λ name index. writes name index value s (λ t. gives value t))
set_is None value s = refl
set_is (Some m) value s =
    written_is (written s.scopes m.0 m.1 value) (spelled m.0 m.1) value s

module _ {A X : Type 0} (code : List (Instruction A)) (last : Status → Outcome → Dialogue X) where
  -- operands on top of those that are beneath
  abbrev put_on : ℕ → ℕ → List (List ℕ) → List Frame → Spot
  put_on place levels operands fs = record {
    place = place;
    operands = operands;
    marks = marks_beneath fs;
    levels = levels;
    handlers = handlers_beneath levels fs;
  }

  module _ (levels : ℕ) (fs : List Frame) (s : Status) (place : ℕ)
      (behind : FramesAt code (place + 1) fs) (fits : levels + brackets fs ≤ 255) where
    -- a procedure hides the command, which begins by its words
    hidden_leads : (before : List (List ℕ)) (value : List ℕ) →
        Follows code last (by_words before (put_on (place + 1) levels (value ∷ beneath fs) fs) s)
        (and_then (words levels no_words (before ++ value ∷ []) s (command levels))
        (onward (onward_of last levels fs)))
    hidden_leads before value = record {
      next = onward_of last levels fs;
      goes = same_goes refl;
      resumes = λ t outcome. outcome_leads code last (place + 1) levels fs t behind fits outcome;
    }

    -- set
    sets_lead : (procedure : Option Procedure) (name value : List ℕ) →
        found s.procedures (codes "set") ≡ procedure →
        Follows code last
        (setting procedure name (put_on (place + 1) levels (value ∷ beneath fs) fs) s)
        (and_then (words levels no_words (codes "set" ∷ name ∷ value ∷ []) s (command levels))
        (onward (onward_of last levels fs)))
    sets_lead None name value is =
        silently code last _
        (same_goes (ap (λ c. and_then c (onward (onward_of last levels fs)))
        (ap (λ p. called p levels (codes "set") (name ∷ value ∷ []) s) is
        ∙ set_is (named name) value s)))
        (stores_lead code last (named name) value
        (put_on (place + 1) levels (value ∷ beneath fs) fs) levels fs s
        (amid_operands code last (place + 1) levels (place + 1) (value ∷ beneath fs) fs
        (those (value ∷ []) (beneath fs)) (omega arith) behind fits)
        (λ t. gives value t)
        (λ t. stands code last (place + 1) levels (Has value) fs (place + 1) t refl behind fits))
    sets_lead (Some procedure) name value is = hidden_leads (codes "set" ∷ name ∷ []) value

    -- a change of the variables, or its error
    changed_leads : (r : Result (Scopes × List ℕ) Flaw) →
        Follows code last (changed r (put_on (place + 1) levels (beneath fs) fs) s)
        (and_then (leaves with_scopes (Found (kept s.scopes r)) s)
        (onward (onward_of last levels fs)))
    changed_leads (Ok done) =
        stands code last (place + 1) levels (Has done.1) fs (place + 1)
        (record s { scopes = done.0 }) refl behind fits
    changed_leads (Err flaw) =
        failure_leads code last flaw (put_on (place + 1) levels (beneath fs) fs) levels fs s
        (amid_operands code last (place + 1) levels (place + 1) (beneath fs) fs
        (those [] (beneath fs)) (omega arith) behind fits)

    -- incr
    increments_lead : (procedure : Option Procedure) (name : List ℕ) →
        found s.procedures (codes "incr") ≡ procedure →
        Follows code last
        (incrementing procedure (put_on (place + 1) levels (name ∷ beneath fs) fs) s)
        (and_then (words levels no_words (codes "incr" ∷ name ∷ []) s (command levels))
        (onward (onward_of last levels fs)))
    increments_lead None name is =
        silently code last _
        (same_goes (ap (λ c. and_then c (onward (onward_of last levels fs)))
        (ap (λ p. called p levels (codes "incr") (name ∷ []) s) is)))
        (changed_leads (incr (name ∷ []) s.scopes))
    increments_lead (Some procedure) name is = hidden_leads (codes "incr" ∷ []) name

    -- incr with a number
    adds_lead : (procedure : Option Procedure) (name by : List ℕ) →
        found s.procedures (codes "incr") ≡ procedure →
        Follows code last
        (adding procedure name (put_on (place + 1) levels (by ∷ beneath fs) fs) s)
        (and_then (words levels no_words (codes "incr" ∷ name ∷ by ∷ []) s (command levels))
        (onward (onward_of last levels fs)))
    adds_lead None name by is =
        silently code last _
        (same_goes (ap (λ c. and_then c (onward (onward_of last levels fs)))
        (ap (λ p. called p levels (codes "incr") (name ∷ by ∷ []) s) is)))
        (changed_leads (incr (name ∷ by ∷ []) s.scopes))
    adds_lead (Some procedure) name by is = hidden_leads (codes "incr" ∷ name ∷ []) by

    -- append
    appends_lead : (procedure : Option Procedure) (name text : List ℕ) →
        found s.procedures (codes "append") ≡ procedure →
        Follows code last
        (appending procedure name (put_on (place + 1) levels (text ∷ beneath fs) fs) s)
        (and_then (words levels no_words (codes "append" ∷ name ∷ text ∷ []) s (command levels))
        (onward (onward_of last levels fs)))
    appends_lead None name text is =
        silently code last _
        (same_goes (ap (λ c. and_then c (onward (onward_of last levels fs)))
        (ap (λ p. called p levels (codes "append") (name ∷ text ∷ []) s) is)))
        (changed_leads (append (name ∷ text ∷ []) s.scopes))
    appends_lead (Some procedure) name text is = hidden_leads (codes "append" ∷ name ∷ []) text

    -- return
    returns_lead : (procedure : Option Procedure) (value : List ℕ) →
        found s.procedures (codes "return") ≡ procedure →
        Follows code last
        (returning procedure (put_on (place + 1) levels (value ∷ beneath fs) fs) s)
        (and_then (words levels no_words (codes "return" ∷ value ∷ []) s (command levels))
        (onward (onward_of last levels fs)))
    returns_lead None value is =
        silently code last _
        (same_goes (ap (λ c. and_then c (onward (onward_of last levels fs)))
        (ap (λ p. called p levels (codes "return") (value ∷ []) s) is)))
        (resumes_so code last _ _
        (outcome_leads code last (place + 1) levels fs s behind fits (Leaves Return value)))
    returns_lead (Some procedure) value is = hidden_leads (codes "return" ∷ []) value

    -- the instruction that is the command
    direct_leads : (value : List ℕ) (before : List (List ℕ)) (it : Instruction A) →
        IsDirect it before → At code place it →
        PartLeads code last place levels (opened (Some value) no_parts [] (Last before)) fs s
    direct_leads value before it (sets_last {name = name}) at =
        by code last it (spot_at place levels (Part (opened (Some value) no_parts []
        (Last before))) fs) s _ at
        (sets_lead (found s.procedures (codes "set")) name value refl)
    direct_leads value before it (appends_last {name = name}) at =
        by code last it (spot_at place levels (Part (opened (Some value) no_parts []
        (Last before))) fs) s _ at
        (appends_lead (found s.procedures (codes "append")) name value refl)
    direct_leads value before it (adds_last {name = name}) at =
        by code last it (spot_at place levels (Part (opened (Some value) no_parts []
        (Last before))) fs) s _ at
        (adds_lead (found s.procedures (codes "incr")) name value refl)
    direct_leads value before it increments_last at =
        by code last it (spot_at place levels (Part (opened (Some value) no_parts []
        (Last before))) fs) s _ at
        (increments_lead (found s.procedures (codes "incr")) value refl)
    direct_leads value before it returns_last at =
        by code last it (spot_at place levels (Part (opened (Some value) no_parts []
        (Last before))) fs) s _ at
        (returns_lead (found s.procedures (codes "return")) value refl)

  -- the value of the last word
  pub last_leads : (levels end : ℕ) (fs : List Frame) (s : Status) (value : List ℕ)
      (before : List (List ℕ)) (place : ℕ) (it : Instruction A) → IsDirect it before →
      At code place it → end ≡ place + 1 → FramesAt code end fs → levels + brackets fs ≤ 255 →
      PartLeads code last place levels (opened (Some value) no_parts [] (Last before)) fs s
  last_leads levels end fs s value before place it is at ends behind fits =
      direct_leads levels fs s place (subst (λ n. FramesAt code n fs) ends behind) fits value before
      it is at
