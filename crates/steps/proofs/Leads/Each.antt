-- Each place.
use Rattle.std.proofs.Common.{ℕ, ◌+◌, ◌≤◌, List, [], ◌∷◌, length, refl, sym, subst, arith}
use Rattle.std.specs.Prelude.{slice_get}
use Rattle.std.proofs.lemmas.Option.{slice_get_past}
use Rattle.code.specs.Code.{FormulaAt, ScriptAt}
use Rattle.code.specs.declared.instruction.Instruction.{Instruction}
use Rattle.state.specs.Evaluated.{evaluated}
use Rattle.plan.specs.Plan.{and_then, onward}
use Rattle.runs.specs.Scripts.{plan_of}
use Rattle.state.specs.Piece.{Script, ScriptTree}
use Rattle.state.specs.Prelude.{Dialogue, gives, Outcome, Status}
use Rattle.tclparse.specs.Formula.{Formula}
use Rattle.steps.specs.Follows.{Here, Follows, InstructionsLead, CodeLeads, FormulasBegin, ScriptsBegin}
use Rattle.steps.specs.Does.{Does, same, reads, Arrives, stays, then}
use Rattle.steps.specs.Goes.{here}
use Rattle.steps.specs.Layout.{FramesAt, HeadAt, formula_code}
use Rattle.steps.specs.Machine.{machine}
use Rattle.steps.specs.Places.{Head, Has, Part, Joins, Gathers, Evaluates, Expresses, Lacks, Values, Starts, Chooses, Enters, Repeats, Finishes, Deals, Takes, Sets, Drops, Compares, Runs, Frame, Rest, brackets, left_of, spot_at, Tries, Stores}
use Rattle.steps.specs.Spot.{Spot, Did, beginning_at}
use Rattle.steps.proofs.Leads.Bodies.{enters_leads}
use Rattle.steps.proofs.Leads.Catches.{kept_leads, tries_lead}
use Rattle.steps.proofs.Leads.Conditionals.{chooses_lead, starts_leads}
use Rattle.steps.proofs.Leads.Opened.{joins_lead, open_leads}
use Rattle.steps.proofs.Leads.Foreach.{deals_lead, drops_lead, sets_lead, takes_lead}
use Rattle.steps.proofs.Leads.Formulas.{evaluates_lead, expression_leads, lacks_lead}
use Rattle.steps.proofs.Leads.Loops.{finishes_lead, repeats_lead}
use Rattle.steps.proofs.Leads.Operators.{operand_leads}
use Rattle.steps.proofs.Leads.Scripts.{has_leads}
use Rattle.steps.proofs.Leads.Standing.{silently, stands_here}
use Rattle.steps.proofs.Leads.Switch.{runs_lead, compares_lead}
use Rattle.steps.proofs.Leads.Words.{words_lead}

module _ {A X : Type 0} (code : List (Instruction A)) (last : Status → Outcome → Dialogue X) where
  head_leads : (place levels : ℕ) (head : Head) (frames : List Frame) (end : ℕ) (s : Status) →
      HeadAt code place head end → FramesAt code end frames → levels + brackets frames ≤ 255 →
      Follows code last (machine (slice_get code place) (spot_at place levels head frames) s)
      (left_of last levels head frames s)
  head_leads place levels (Has v) frames end s at behind fits =
      has_leads code last place levels frames v s (subst (λ n. FramesAt code n frames) (sym at)
      behind)
      fits
  head_leads place levels (Part o) frames end s at behind fits =
      open_leads code last levels end frames s o.so_far o.outer o.word place o.parts at behind fits
  head_leads place levels (Joins v o) frames end s at behind fits =
      joins_lead code last levels end frames s v o.so_far o.outer o.word place o.parts at behind
      fits
  head_leads place levels (Gathers braced counted before rest) frames end s at behind fits =
      words_lead code last levels before frames s braced counted at.0 place rest end at.1 at.2
      behind fits
  head_leads place levels (Evaluates f outer) frames end s at behind fits =
      evaluates_lead code last levels end frames s outer place f at.0 at.1 at.2 behind fits
  head_leads place levels (Expresses text outer) frames end s at behind fits =
      expression_leads code last levels end frames s outer place text at.0 at.1 at.2 behind fits
  head_leads place levels (Lacks text why) frames end s at behind fits =
      lacks_lead code last levels end frames s place text why at.0 at.1 at.2 behind fits
  head_leads place levels (Values v outer) frames end s at behind fits =
      operand_leads code last levels end frames s place v outer at behind fits
  head_leads place levels (Starts ws) frames end s at behind fits =
      starts_leads code last levels frames s place ws end at behind fits
  head_leads place levels (Chooses more otherwise) frames end s at behind fits =
      chooses_lead code last levels end frames s place more otherwise at behind fits
  head_leads place levels (Enters tree) frames end s at behind fits =
      enters_leads code last levels tree frames s place end at behind fits
  head_leads place levels (Repeats loop) frames end s at behind fits =
      repeats_lead code last levels end frames s loop place at behind fits
  head_leads place levels Finishes frames end s at behind fits =
      finishes_lead code last levels end frames s place at.0 at.1 behind fits
  head_leads place levels (Deals list names body) frames end s at behind fits =
      deals_lead code last levels end frames s list names body place at.0 at.1 behind fits
  head_leads place levels (Takes each elements) frames end s at behind fits =
      takes_lead code last levels end frames s each elements place at.0 at.1 at.2 at.3 at.4 behind
      fits
  head_leads place levels (Sets names each elements) frames end s at behind fits =
      sets_lead code last levels end frames s each elements place at.0 at.1 names at.2 at.3 at.4
      behind fits
  head_leads place levels (Drops elements) frames end s at behind fits =
      drops_lead code last levels end frames s elements place at.0 at.1 behind fits
  head_leads place levels (Compares globs text arms) frames end s at behind fits =
      compares_lead code last globs levels place arms end frames s text at behind fits
  head_leads place levels (Runs text body) frames end s at behind fits =
      runs_lead code last levels end frames s text body place at.0 at.1 behind fits
  head_leads place levels (Tries tree variable) frames end s at behind fits =
      tries_lead code last levels frames s tree variable place at.0 end at.1 at.2 at.3 at.4 behind fits
  head_leads place levels (Stores variable number value) frames end s at behind fits =
      kept_leads code last levels frames s variable number value place end at behind fits

  leads : (spot : Spot) (s : Status) (p : Dialogue X) → Here code last spot s p →
      Follows code last (machine (slice_get code spot.place) spot s) p
  leads spot s p h =
      subst (λ at. Follows code last (machine (slice_get code at.place) at s) p) (sym h.stands)
      (subst (λ q. Follows code last
      (machine (slice_get code h.place) (spot_at h.place h.levels h.head h.frames) s) q) (sym h.is)
      (head_leads h.place h.levels h.head h.frames h.end s h.at h.behind h.fits))

  -- a result once texts are read
  follows_does : {did end : Did} (p : Dialogue X) → Does did end → Follows code last did p →
      Follows code last end p
  follows_does p same f = f
  follows_does p (reads tree is more) f = follows_does p more (f tree is)

  -- several instructions
  arrives_leads : (from : Spot) (s : Status) (p : Dialogue X) → Here code last from s p →
      {did : Did} → Arrives code from s did → Follows code last did p
  arrives_leads from s p h stays = record { then = p; goes = here; at = h }
  arrives_leads from s p h (then {spot = spot} {t = t} {did = did} before does) =
      let comes = arrives_leads from s p h before in
      silently code last did comes.goes
      (follows_does comes.then does (leads spot t comes.then comes.at))

  -- where a script begins
  begins : (tree : ScriptTree) (levels : ℕ) (s : Status) →
      ScriptAt code 0 tree.commands tree.fault (length code) → levels ≤ 255 →
      Here code last (beginning_at levels) s
      (and_then (plan_of (Script tree levels) s) (onward last))
  begins tree levels s at fits =
      stands_here code last 0 levels (Has []) (Rest tree.commands tree.fault ∷ []) 0 s refl
      (length code, at, slice_get_past code (length code) (omega arith)) (omega (arith, fits))

  -- where a formula begins
  formula_begins : (f : Formula) (levels : ℕ) (s : Status) → FormulaAt code 0 f (length code) →
      levels ≤ 255 →
      Here code last (record { place = 0; operands = []; marks = []; levels = levels; handlers = [] }) s
      (and_then (evaluated levels f s (λ t value. gives value t)) (onward last))
  formula_begins f levels s at fits =
      stands_here code last 0 levels (Evaluates f []) [] (length code) s
      (length code, formula_code at, refl)
      (slice_get_past code (length code) (omega arith)) (omega (arith, fits))

pub instructions_lead : {A X : Type 0} → InstructionsLead A X
instructions_lead = λ code last spot s p h. leads code last spot s p h

pub code_leads : {A X : Type 0} → CodeLeads A X
code_leads = λ code last spot s did p h arrives. arrives_leads code last spot s p h arrives

pub scripts_begin : {A X : Type 0} → ScriptsBegin A X
scripts_begin = λ code last tree levels s at fits. begins code last tree levels s at fits

pub formulas_begin : {A X : Type 0} → FormulasBegin A X
formulas_begin = λ code last f levels s at fits. formula_begins code last f levels s at fits
