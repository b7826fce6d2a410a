-- The value of the list of a foreach is on top.
use Rattle.std.proofs.Common.{◌≡◌, ◌∙◌, ℕ, ◌+◌, ◌≤◌, List, [], ◌∷◌, codes, Option, Some, None, Ok, refl, sym, ap, subst, if◌then◌else◌}
use Rattle.std.proofs.lemmas.Bool.{le-leb}
use Rattle.nesting.proofs.Names.{names_good}
use Rattle.code.specs.Code.{AreNames, DealAt, ForeachAt, with_names}
use Rattle.code.specs.declared.instruction.Instruction.{Instruction}
use Rattle.code.specs.declared.instruction.Instruction.TheVariants as i
use Rattle.plan.specs.Plan.{and_then, onward}
use Rattle.runs.specs.Commands.{called, command}
use Rattle.state.specs.Piece.{ListText}
use Rattle.state.specs.Prelude.{Dialogue, Outcome, Status}
use Rattle.steps.specs.Each.{listed}
use Rattle.steps.specs.Follows.{Follows}
use Rattle.steps.specs.Foreach.{hidden}
use Rattle.steps.specs.Goes.{reads}
use Rattle.steps.specs.Layout.{FramesAt}
use Rattle.steps.specs.Places.{Part, Deals, Frame, beneath, brackets, handlers_beneath, marks_beneath, onward_of, spot_at}
use Rattle.steps.specs.Spot.{Spot, Begins, Stuck}
use Rattle.steps.specs.Word.{Listed}
use Rattle.steps.proofs.Leads.Grows.{deal_grows}
use Rattle.state.proofs.Words.{literal_words}
use Rattle.steps.proofs.Leads.Parts.{PartLeads, opened}
use Rattle.steps.proofs.Leads.Resumed.{outcome_leads}
use Rattle.steps.proofs.Leads.Silent.{same_goes}
use Rattle.steps.proofs.Leads.Standing.{by, sooner, stands}
use Rattle.tclparse.specs.Tree.{no_parts, literals}
use Rattle.tclstate.specs.Pairs.{found}
use Rattle.tclstate.specs.Procs.{Procedure}
use Rattle.state.specs.Words.{words}

module _ {A X : Type 0} (code : List (Instruction A)) (last : Status → Outcome → Dialogue X) where
  -- operands on top of those that are beneath
  abbrev put_on : ℕ → ℕ → List (List ℕ) → List Frame → Spot
  put_on place levels operands fs = record {
    place = place;
    operands = operands;
    marks = marks_beneath fs;
    levels = levels;
    handlers = handlers_beneath levels fs;
  }

  -- a procedure hides the command, or none does
  hidden_leads : (procedure : Option Procedure) (levels end : ℕ) (fs : List Frame) (s : Status)
      (list variables body : List ℕ) (names : List (List ℕ)) (place : ℕ) →
      found s.procedures (codes "foreach") ≡ procedure → AreNames variables names →
      DealAt code (place + 1) names body end → FramesAt code end fs →
      levels + brackets fs ≤ 255 →
      Follows code last
      (hidden procedure variables body end (put_on (place + 1) levels (list ∷ beneath fs) fs) s)
      (and_then (words levels (literals (body ∷ [])) (codes "foreach" ∷ variables ∷ list ∷ []) s
      (command levels)) (onward (onward_of last levels fs)))
  hidden_leads None levels end fs s list variables body names place is are deal_at behind fits =
      sooner code last _ s
      (same_goes (ap (λ c. and_then c (onward (onward_of last levels fs)))
      (literal_words levels (body ∷ []) (codes "foreach" ∷ variables ∷ list ∷ []) s (command levels)
      ∙ ap (λ p. called p levels (codes "foreach") (variables ∷ list ∷ body ∷ []) s) is)))
      (sooner code last _ s
      (reads {text = ListText variables} (Ok names) are.list
      (same_goes (ap (λ c. and_then c (onward (onward_of last levels fs)))
      (names_good variables names s (λ ns. listed levels list ns body s) are.some are.each))))
      (stands code last (place + 1) levels (Deals list names body) fs end s (are.some, deal_at)
      behind fits))
  hidden_leads (Some procedure) levels end fs s list variables body names place is are deal_at
      behind fits =
      let p = and_then (words levels (literals (body ∷ []))
      (codes "foreach" ∷ variables ∷ list ∷ []) s (command levels))
      (onward (onward_of last levels fs)) in
      subst (λ b. Follows code last
      (if b then Begins (codes "foreach" ∷ variables ∷ list ∷ body ∷ [])
      (put_on end levels (beneath fs) fs) s else Stuck) p)
      (sym (le-leb (place + 1) end (deal_grows code deal_at)))
      (record {
        next = onward_of last levels fs;
        goes = same_goes (ap (λ c. and_then c (onward (onward_of last levels fs)))
            (literal_words levels (body ∷ []) (codes "foreach" ∷ variables ∷ list ∷ []) s
            (command levels)));
        resumes = λ t outcome. outcome_leads code last end levels fs t behind fits outcome;
      })

  -- the value of the list
  pub listed_leads : (levels end : ℕ) (fs : List Frame) (s : Status) (list variables body : List ℕ)
      (place : ℕ) → ForeachAt code place variables body end → FramesAt code end fs →
      levels + brackets fs ≤ 255 →
      PartLeads code last place levels (opened (Some list) no_parts [] (Listed variables body)) fs s
  listed_leads levels end fs s list variables body place (with_names {names = names} are at deal_at)
      behind fits =
      by code last (i.Foreach variables body end) (spot_at place levels (Part (opened (Some list)
      no_parts [] (Listed variables body))) fs) s _ at
      (hidden_leads (found s.procedures (codes "foreach")) levels end fs s list variables body names
      place refl are deal_at behind fits)
