-- The run of a code as one value: how it begins, and what it does with an outcome.
use Rattle.std.proofs.Common.{◌≡◌, ℕ, ◌≤◌, true, false, List, [], ◌∷◌, length, refl, sym, subst, arith}
use Rattle.std.proofs.lemmas.Option.{slice_get_past}
use Rattle.code.specs.Code.{At, FormulaAt, ScriptAt, WordsAt}
use Rattle.code.specs.Doing.{Doing, IsCodeOfDoing, doing_of}
use Rattle.code.specs.declared.instruction.Instruction.{Instruction}
use Rattle.code.specs.declared.instruction.Instruction.TheVariants as i
use Rattle.code.specs.Made.{IsCodeOfEntry, IsCodeOfMade}
use Rattle.code.specs.declared.made.Entry.{Entry}
use Rattle.code.specs.declared.made.Entry.TheVariants as entry
use Rattle.code.specs.declared.made.Made.{Made}
use Rattle.code.specs.declared.made.Made.TheVariants as made
use Rattle.expects.specs.Expect.{by_name}
use Rattle.nesting.specs.Doing.{done}
use Rattle.state.specs.Evaluated.{evaluated}
use Rattle.plan.specs.Plan.{and_then, onward}
use Rattle.runs.specs.Scripts.{script}
use Rattle.state.specs.Piece.{ScriptTree}
use Rattle.state.specs.Prelude.{Dialogue, gives, Gives, Leaves, Stops, on_value, Outcome, Scopes, Status}
use Rattle.state.specs.Words.{words}
use Rattle.steps.specs.Does.{Arrives}
use Rattle.steps.specs.Entered.{entered, run_of}
use Rattle.steps.specs.Follows.{Follows, Resumes}
use Rattle.steps.specs.Handling.{resumed}
use Rattle.steps.specs.Places.{Alone, Command, Gathers, Rest}
use Rattle.steps.specs.Spot.{Spot, Did, Went}
use Rattle.steps.specs.View.{with_parts}
use Rattle.steps.proofs.Leads.Each.{code_leads}
use Rattle.steps.proofs.Leads.Resumed.{outcome_leads}
use Rattle.steps.proofs.Leads.Standing.{stands_here}
use Rattle.tclparse.specs.Formula.{Formula}
use Rattle.tclparse.specs.Tree.{Words}
use Rattle.tclstate.specs.Procs.{Procs}

-- a state of the definition that has these parts already
pub same_parts : (s : Status) (scopes : Scopes) (procs : Procs) (left : ℕ) → s.scopes ≡ scopes →
    s.procedures ≡ procs → s.left ≡ left → with_parts scopes procs left s ≡ s
same_parts s scopes procs left one two three =
    subst (λ x. with_parts x procs left s ≡ s) one
    (subst (λ x. with_parts s.scopes x left s ≡ s) two
    (subst (λ x. with_parts s.scopes s.procedures x s ≡ s) three refl))

module _ {A X : Type 0} (code : List (Instruction A)) (last : Status → Outcome → Dialogue X) where
  -- a script of which nothing is done yet waits for the empty text
  script_awaits : (tree : ScriptTree) (levels : ℕ) (spot : Spot) → levels ≤ 255 →
      ScriptAt code 0 tree.commands tree.fault (length code) →
      spot ≡ record { place = 0; operands = []; marks = []; levels = levels; handlers = [] } →
      (s : Status) (outcome : Outcome) →
      Resumes code last (resumed spot outcome s)
      (and_then (on_value (script levels tree.commands tree.fault) s outcome) (onward last))
  script_awaits tree levels spot fits at is s outcome =
      subst (λ there. Resumes code last (resumed there outcome s)
      (and_then (on_value (script levels tree.commands tree.fault) s outcome) (onward last)))
      (sym is)
      (outcome_leads code last 0 levels (Rest tree.commands tree.fault ∷ []) s
      (length code, at, slice_get_past code (length code) (omega arith)) (omega (arith, fits))
      outcome)

  -- so does a formula, whose value is that of the run
  formula_awaits : (f : Formula) (levels : ℕ) (spot : Spot) → levels ≤ 255 →
      At code 0 i.Discard → FormulaAt code 1 f (length code) →
      spot ≡ record { place = 0; operands = []; marks = []; levels = levels; handlers = [] } →
      (s : Status) (outcome : Outcome) →
      Resumes code last (resumed spot outcome s)
      (and_then (on_value (λ t value. evaluated levels f t (λ u v. gives v u)) s outcome)
      (onward last))
  formula_awaits f levels spot fits drops at is s outcome =
      subst (λ there. Resumes code last (resumed there outcome s)
      (and_then (on_value (λ t value. evaluated levels f t (λ u v. gives v u)) s outcome)
      (onward last)))
      (sym is)
      (outcome_leads code last 0 levels (Alone f ∷ []) s
      (drops, (length code, at, slice_get_past code (length code) (omega arith)))
      (omega (arith, fits)) outcome)

  -- and so do the words of an argument in braces, which come after the value at hand
  argument_resumes : (ws : Words) (levels : ℕ) → levels ≤ 255 →
      WordsAt code true false 1 0 ws (length code) → (s : Status) (outcome : Outcome) →
      Resumes code last
      (resumed (record {
        place = 0;
        operands = [];
        marks = [];
        levels = levels;
        handlers = [];
      }) outcome s)
      (and_then (on_value (λ t value. words levels ws (value ∷ []) t (by_name levels)) s outcome)
      (onward last))
  argument_resumes ws levels fits at s (Gives value) =
      stands_here code last 0 levels (Gathers true false (value ∷ []) ws) [] (length code) s
      (1, refl, at) (slice_get_past code (length code) (omega arith)) (omega (arith, fits))
  argument_resumes ws levels fits at s (Leaves why value) = refl
  argument_resumes ws levels fits at s (Stops stop) = refl

  argument_awaits : (ws : Words) (levels : ℕ) (spot : Spot) → levels ≤ 255 →
      WordsAt code true false 1 0 ws (length code) →
      spot ≡ record { place = 0; operands = []; marks = []; levels = levels; handlers = [] } →
      (s : Status) (outcome : Outcome) →
      Resumes code last (resumed spot outcome s)
      (and_then (on_value (λ t value. words levels ws (value ∷ []) t (by_name levels)) s outcome)
      (onward last))
  argument_awaits ws levels spot fits at is s outcome =
      subst (λ there. Resumes code last (resumed there outcome s)
      (and_then (on_value (λ t value. words levels ws (value ∷ []) t (by_name levels)) s outcome)
      (onward last)))
      (sym is) (argument_resumes ws levels fits at s outcome)

  -- a script or a formula
  made_awaits : (it : Made A) (levels : ℕ) (spot : Spot) → levels ≤ 255 → IsCodeOfMade code it →
      spot ≡ record { place = 0; operands = []; marks = []; levels = levels; handlers = [] } →
      (s : Status) (outcome : Outcome) →
      Resumes code last (resumed spot outcome s)
      (and_then (on_value (run_of it levels) s outcome) (onward last))
  made_awaits (made.Script tree) levels spot fits at is s outcome =
      script_awaits tree levels spot fits at is s outcome
  made_awaits (made.Formula f) levels spot fits at is s outcome =
      formula_awaits f levels spot fits at.0 at.1 is s outcome

  -- and so does what a command does, after the value at hand is dropped
  doing_awaits : (doing : Doing) (levels : ℕ) (spot : Spot) → levels ≤ 255 →
      IsCodeOfDoing code doing →
      spot ≡ record { place = 0; operands = []; marks = []; levels = levels; handlers = [] } →
      (s : Status) (outcome : Outcome) →
      Resumes code last (resumed spot outcome s)
      (and_then (on_value (λ t value. done doing levels t) s outcome) (onward last))
  doing_awaits doing levels spot fits at is s outcome =
      subst (λ there. Resumes code last (resumed there outcome s)
      (and_then (on_value (λ t value. done doing levels t) s outcome) (onward last)))
      (sym is)
      (outcome_leads code last 0 levels (Command doing ∷ []) s
      (at.drops, (length code, at.lies, slice_get_past code (length code) (omega arith)))
      (omega (arith, fits)) outcome)

  -- each entry
  pub entry_awaits : (it : Entry A) (levels : ℕ) (spot : Spot) → levels ≤ 255 →
      IsCodeOfEntry code it →
      spot ≡ record { place = 0; operands = []; marks = []; levels = levels; handlers = [] } →
      (s : Status) (outcome : Outcome) →
      Resumes code last (resumed spot outcome s)
      (and_then (on_value (entered it levels) s outcome) (onward last))
  entry_awaits (entry.Made it) levels spot fits at is s outcome =
      made_awaits it levels spot fits at is s outcome
  entry_awaits (entry.Argument ws) levels spot fits at is s outcome =
      argument_awaits ws levels spot fits at is s outcome
  entry_awaits (entry.Does doing) levels spot fits at is s outcome =
      doing_awaits (doing_of doing) levels spot fits at is s outcome

  -- the outcome leads on, and several instructions after it
  pub arrives_follow : (spot : Spot) (s t : Status) (did : Did) (p : Dialogue X) → t ≡ s →
      Resumes code last (Went spot s) p → Arrives code spot t did → Follows code last did p
  arrives_follow spot s t did p same here arrives =
      code_leads code last spot s did p here
      (subst (λ at. Arrives code spot at did) same arrives)
