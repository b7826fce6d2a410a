-- A foreach: its list is read, a turn begins, its variables are set, its body is over, and it is
-- over.
use Rattle.std.proofs.Common.{◌≡◌, ℕ, ◌+◌, ◌<◌, ◌≤◌, List, [], ◌∷◌, ◌++◌, length, Result, Ok, Err, refl, sym, ap, subst, arith, if◌then◌else◌, length-append}
use Rattle.std.proofs.Math.Seq.{drop-nil}
use Rattle.std.proofs.lemmas.Bool.{le-leb, lt-leb}
use Rattle.std.specs.Prelude.{slice_get}
use Rattle.nesting.specs.Foreach.{assigns, dealt}
use Rattle.code.specs.Code.{At, AssignsAt, BodyAt, DealAt, NextAt, all_set, deals, next_turn, sets}
use Rattle.code.specs.declared.instruction.Instruction.{Instruction}
use Rattle.code.specs.declared.instruction.Instruction.TheVariants as i
use Rattle.meanings.specs.Meaning.{IsSplit, flaw_of_list}
use Rattle.plan.specs.Plan.{and_then, onward}
use Rattle.state.specs.Piece.{ListText, ScriptText}
use Rattle.state.specs.Prelude.{Dialogue, inside, Outcome, Status}
use Rattle.state.specs.Turn.{on_turn}
use Rattle.steps.specs.Each.{Each, body_left, turn_left, turns_left}
use Rattle.steps.specs.Follows.{Comes, Follows}
use Rattle.steps.specs.Foreach as machines
use Rattle.steps.specs.Goes.{here, reads}
use Rattle.steps.specs.Layout.{EachAt, FramesAt}
use Rattle.steps.specs.Loops.{begin_turn}
use Rattle.steps.specs.Machine.{machine}
use Rattle.steps.specs.Moves.{jumping, on_top, with_operands}
use Rattle.steps.specs.Places.{Has, Enters, Deals, Takes, Sets, Drops, Frame, Elements, beneath, brackets, handlers_beneath, left_of, marks_beneath, onward_of, spot_at}
use Rattle.steps.specs.Spot.{Spot, Went}
use Rattle.steps.specs.Storing.{storing}
use Rattle.steps.proofs.Leads.Above.{those}
use Rattle.steps.proofs.Leads.Bodies.{body_read, inside_passes}
use Rattle.steps.proofs.Leads.Grows.{assigns_grow, body_grows, next_grows}
use Rattle.steps.proofs.Leads.Meanings.{amid_below, below_at, jump_leads}
use Rattle.steps.proofs.Leads.Operands.{lowest_below}
use Rattle.steps.proofs.Leads.Resumed.{Amid, failure_leads}
use Rattle.steps.proofs.Leads.Silent.{same_goes}
use Rattle.steps.proofs.Leads.Standing.{by, silently, sooner, stands, tick_leads}
use Rattle.steps.proofs.Leads.Stores.{stores_lead}
use Rattle.steps.proofs.Rounds.{next_turn as first_turn, no_turn}
use Rattle.tclparse.specs.Variable.{named}
use Rattle.tcltext.specs.Flaw.{Flaw}

module _ {A X : Type 0} (code : List (Instruction A)) (last : Status → Outcome → Dialogue X) where
  -- the elements of a foreach, and what is beneath them
  abbrev pub elements_at : ℕ → ℕ → List (List ℕ) → List Frame → Spot
  elements_at place levels elements fs = record {
    place = place;
    operands = elements ++ beneath fs;
    marks = length (beneath fs) ∷ marks_beneath fs;
    levels = levels;
    handlers = handlers_beneath levels fs;
  }

  -- there it stands before the frames
  amid_elements : (place levels : ℕ) (elements : List (List ℕ)) (fs : List Frame) (end : ℕ) →
      place ≤ end → FramesAt code end fs → levels + brackets fs ≤ 255 →
      Amid code last (elements_at place levels elements fs) levels fs
  amid_elements place levels elements fs end before behind fits = record {
    end = end;
    behind = behind;
    fits = fits;
    before = before;
    operands = those elements (beneath fs);
    marks = those (length (beneath fs) ∷ []) (marks_beneath fs);
    handlers = refl;
  }

  -- the elements of its list are put on top, or the text is no list
  split_leads : (levels end : ℕ) (fs : List Frame) (s : Status) (list : List ℕ)
      (names : List (List ℕ)) (body : List ℕ) (place mid : ℕ) (split : Result (List (List ℕ)) Flaw) →
      IsSplit list split → 0 < length names → BodyAt code (place + 1) body mid →
      At code mid i.EndTurn → NextAt code (mid + 1) names (place + 1) mid end →
      FramesAt code end fs → levels + brackets fs ≤ 255 →
      Follows code last (machines.dealt (mid + 1) (below_at code last (place + 1) levels [] fs) s split)
      (left_of last levels (Deals list names body) fs s)
  split_leads levels end fs s list names body place mid (Ok elements) is some body_at ended
      (next_turn {turn = turn} more assigns_at begins done) behind fits =
      let read = body_read code body_at in
      let each : Each = record { names = names; body = read.tree } in
      let at : EachAt code each mid turn = record {
        some = some;
        body = place + 1;
        enters = read.at;
        ended = ended;
        more = more;
        assigns = assigns_at;
        begins = begins;
        done = done;
      } in
      silently code last _
      (reads {text = ListText list} (Ok elements) is
      (reads {text = ScriptText body} read.tree read.is here))
      (jump_leads code last (mid + 1) (elements_at (place + 1) levels elements fs) s _
      (omega (arith, body_grows code body_at))
      (stands code last (mid + 1) levels (Takes each elements) fs end s
      (mid, turn, at, refl, refl) behind fits))
  split_leads levels end fs s list names body place mid (Err why) is some body_at ended next behind
      fits =
      silently code last _ (reads {text = ListText list} (Err why) is here)
      (failure_leads code last (flaw_of_list why) (below_at code last (place + 1) levels [] fs) levels fs s
      (amid_below code last (place + 1) levels [] fs end
      (omega (arith, body_grows code body_at, next_grows code next)) behind fits))

  -- its list is read
  pub deals_lead : (levels end : ℕ) (fs : List Frame) (s : Status) (list : List ℕ)
      (names : List (List ℕ)) (body : List ℕ) (place : ℕ) → 0 < length names →
      DealAt code place names body end → FramesAt code end fs → levels + brackets fs ≤ 255 →
      Follows code last
      (machine (slice_get code place) (spot_at place levels (Deals list names body) fs) s)
      (left_of last levels (Deals list names body) fs s)
  deals_lead levels end fs s list names body place some (deals {mid = mid} deal body_at ended next)
      behind fits =
      by code last (i.Deal (mid + 1)) (spot_at place levels (Deals list names body) fs) s _ deal
      (λ split is. split_leads levels end fs s list names body place mid split is some body_at ended
      next behind fits)

  -- its next turn begins, or it is over
  pub takes_lead : (levels end : ℕ) (fs : List Frame) (s : Status) (each : Each)
      (elements : List (List ℕ)) (place ends turn : ℕ) → EachAt code each ends turn →
      place ≡ ends + 1 → end ≡ turn + 2 → FramesAt code end fs → levels + brackets fs ≤ 255 →
      Follows code last
      (machine (slice_get code place) (spot_at place levels (Takes each elements) fs) s)
      (left_of last levels (Takes each elements) fs s)
  takes_lead levels end fs s each [] place ends turn at there is behind fits =
      let spot = elements_at (place + 1) levels [] fs in
      let p = left_of last levels (Takes each []) fs s in
      let count = length (beneath fs) in
      by code last (i.More (turn + 1)) (spot_at place levels (Takes each []) fs) s p
      (subst (λ n. At code n (i.More (turn + 1))) (sym there) at.more)
      (subst (λ b. Follows code last (if b then jumping (turn + 1) spot s else Went spot s) p)
      (sym (le-leb count count (omega arith)))
      (silently code last _
      (same_goes (ap (λ c. and_then c (onward (onward_of last levels fs))) (no_turn levels each s)))
      (jump_leads code last (turn + 1) spot s _
      (omega (arith, there, assigns_grow code at.assigns))
      (stands code last (turn + 1) levels (Drops []) fs end s (at.done, omega (arith, is)) behind
      fits))))
  takes_lead levels end fs s each (e ∷ es) place ends turn at there is behind fits =
      let spot = elements_at (place + 1) levels (e ∷ es) fs in
      let p = left_of last levels (Takes each (e ∷ es)) fs s in
      by code last (i.More (turn + 1)) (spot_at place levels (Takes each (e ∷ es)) fs) s p
      (subst (λ n. At code n (i.More (turn + 1))) (sym there) at.more)
      (subst (λ b. Follows code last (if b then jumping (turn + 1) spot s else Went spot s) p)
      (sym (lt-leb (length (e ∷ es ++ beneath fs)) (length (beneath fs))
      (omega (arith, length-append es (beneath fs)))))
      (sooner code last spot s
      (same_goes (ap (λ c. and_then c (onward (onward_of last levels fs)))
      (first_turn levels each (e ∷ es) s at.some (omega arith))))
      (stands code last (place + 1) levels (Sets each.names each (e ∷ es)) fs end s
      (ends, turn, at, subst (λ n. AssignsAt code (n + 1) each.names turn) (sym there) at.assigns, is)
      behind fits)))

  -- a variable takes the next element
  set_leads : (levels end : ℕ) (fs : List Frame) (s : Status) (each : Each)
      (elements : List (List ℕ)) (place ends turn : ℕ) (name : List ℕ) (names : List (List ℕ)) →
      EachAt code each ends turn → At code place (i.Assign name) →
      AssignsAt code (place + 1) names turn → end ≡ turn + 2 → FramesAt code end fs →
      levels + brackets fs ≤ 255 →
      Follows code last
      (machine (slice_get code place) (spot_at place levels (Sets (name ∷ names) each elements) fs) s)
      (left_of last levels (Sets (name ∷ names) each elements) fs s)
  set_leads levels end fs s each [] place ends turn name names at set_at rest is behind fits =
      let spot = elements_at (place + 1) levels [] fs in
      let p = left_of last levels (Sets (name ∷ names) each []) fs s in
      let count = length (beneath fs) in
      by code last (i.Assign name) (spot_at place levels (Sets (name ∷ names) each []) fs) s p set_at
      (subst (λ b. Follows code last
      (if b then storing (named name) [] spot s
      else on_top (beneath fs) (λ value below.
      storing (named name) value (with_operands below spot) s)) p)
      (sym (le-leb count count (omega arith)))
      (stores_lead code last (named name) [] spot levels fs s
      (amid_elements (place + 1) levels [] fs end (omega (arith, assigns_grow code rest, is)) behind
      fits)
      (λ t. assigns (dealt names []) t (body_left levels each []))
      (λ t. sooner code last spot t
      (same_goes (ap (λ es. and_then (assigns (dealt names []) t (body_left levels each es))
      (onward (onward_of last levels fs))) (sym (drop-nil (length names)))))
      (stands code last (place + 1) levels (Sets names each []) fs end t
      (ends, turn, at, rest, is) behind fits))))
  set_leads levels end fs s each (e ∷ es) place ends turn name names at set_at rest is behind fits =
      let spot = elements_at (place + 1) levels (e ∷ es) fs in
      let p = left_of last levels (Sets (name ∷ names) each (e ∷ es)) fs s in
      by code last (i.Assign name) (spot_at place levels (Sets (name ∷ names) each (e ∷ es)) fs) s p
      set_at
      (subst (λ b. Follows code last
      (if b then storing (named name) [] spot s
      else on_top (e ∷ es ++ beneath fs) (λ value below.
      storing (named name) value (with_operands below spot) s)) p)
      (sym (lt-leb (length (e ∷ es ++ beneath fs)) (length (beneath fs))
      (omega (arith, length-append es (beneath fs)))))
      (stores_lead code last (named name) e (elements_at (place + 1) levels es fs) levels fs s
      (amid_elements (place + 1) levels es fs end (omega (arith, assigns_grow code rest, is)) behind
      fits)
      (λ t. turn_left levels names each es t)
      (λ t. stands code last (place + 1) levels (Sets names each es) fs end t
      (ends, turn, at, rest, is) behind fits)))

  -- the body of a turn begins
  round_begins : (levels end : ℕ) (fs : List Frame) (s : Status) (each : Each)
      (elements : List (List ℕ)) (ends turn : ℕ) (at : EachAt code each ends turn) →
      end ≡ turn + 2 → FramesAt code end fs → levels + brackets fs ≤ 255 →
      Comes code last (begin_turn at.body ends (elements_at (turn + 1) levels elements fs)) s
      (and_then (inside levels each.body s (on_turn (turns_left levels each elements)))
      (onward (onward_of last levels fs)))
  round_begins levels end fs s each elements ends turn at is behind fits =
      sooner code last _ s
      (same_goes (inside_passes levels each.body s (on_turn (turns_left levels each elements))
      (onward_of last levels fs)))
      (stands code last at.body levels (Enters each.body) (Elements each elements ends turn ∷ fs)
      ends s at.enters (at, refl, subst (λ n. FramesAt code n fs) is behind) fits)

  -- its variables are set, and then its body begins
  pub sets_lead : (levels end : ℕ) (fs : List Frame) (s : Status) (each : Each)
      (elements : List (List ℕ)) (place ends turn : ℕ) (names : List (List ℕ)) →
      EachAt code each ends turn → AssignsAt code place names turn → end ≡ turn + 2 →
      FramesAt code end fs → levels + brackets fs ≤ 255 →
      Follows code last
      (machine (slice_get code place) (spot_at place levels (Sets names each elements) fs) s)
      (left_of last levels (Sets names each elements) fs s)
  sets_lead levels end fs s each elements place ends turn names at all_set is behind fits =
      by code last (i.Begin at.body ends) (spot_at place levels (Sets [] each elements) fs) s _
      at.begins
      (tick_leads code last s.left levels fs s _
      (λ t. inside levels each.body t (on_turn (turns_left levels each elements)))
      (λ t. round_begins levels end fs t each elements ends place at is behind fits))
  sets_lead levels end fs s each elements place ends turn names at (sets {name = name}
      {names = more} set_at rest) is behind fits =
      set_leads levels end fs s each elements place ends turn name more at set_at rest is behind
      fits

  -- its body is over
  pub round_over : (levels : ℕ) (fs : List Frame) (s : Status) (v : List ℕ) (each : Each)
      (elements : List (List ℕ)) (place ends turn : ℕ) → EachAt code each ends turn →
      place ≡ ends → FramesAt code (turn + 2) fs → levels + brackets fs ≤ 255 →
      Follows code last
      (machine (slice_get code place)
      (spot_at place levels (Has v) (Elements each elements ends turn ∷ fs)) s)
      (left_of last levels (Has v) (Elements each elements ends turn ∷ fs) s)
  round_over levels fs s v each elements place ends turn at there behind fits =
      by code last i.EndTurn (spot_at place levels (Has v) (Elements each elements ends turn ∷ fs)) s _
      (subst (λ n. At code n i.EndTurn) (sym there) at.ended)
      (stands code last (place + 1) levels (Takes each elements) fs (turn + 2) s
      (ends, turn, at, ap (λ n. n + 1) there, refl) behind fits)

  -- it is over: the elements that are left are dropped, and its value is empty
  pub drops_lead : (levels end : ℕ) (fs : List Frame) (s : Status) (elements : List (List ℕ))
      (place : ℕ) → At code place i.Done → end ≡ place + 1 → FramesAt code end fs →
      levels + brackets fs ≤ 255 →
      Follows code last
      (machine (slice_get code place) (spot_at place levels (Drops elements) fs) s)
      (left_of last levels (Drops elements) fs s)
  drops_lead levels end fs s elements place at is behind fits =
      by code last i.Done (spot_at place levels (Drops elements) fs) s _ at
      (subst (λ os. Follows code last
      (Went (record {
        place = place + 1;
        operands = [] ∷ os;
        marks = marks_beneath fs;
        levels = levels;
        handlers = handlers_beneath levels fs;
      }) s)
      (left_of last levels (Drops elements) fs s))
      (sym (lowest_below elements (beneath fs)))
      (stands code last (place + 1) levels (Has []) fs (place + 1) s refl
      (subst (λ n. FramesAt code n fs) is behind) fits))
