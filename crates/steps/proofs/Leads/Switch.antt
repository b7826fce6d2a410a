-- A switch: its patterns are tried, and the body that is chosen runs.
use Rattle.std.proofs.Common.{◌≡◌, ◌∙◌, ℕ, ◌+◌, ◌≤◌, Bool, true, false, List, [], ◌∷◌, codes, length, Some, refl, sym, ap, subst, arith, if◌then◌else◌}
use Rattle.std.proofs.lemmas.Bool.{le-ltb}
use Rattle.std.specs.Prelude.{slice_get}
use Rattle.std.specs.Str.{bytes_eq}
use Rattle.acts.specs.Flaw as flaw
use Rattle.nesting.specs.Switch.{body_of, chosen, is_default, runs_body, tried}
use Rattle.code.specs.Code.{ArmsAt, At, BodyAt, RestAt, TestAt, no_match, otherwise, shares, some_arms, takes}
use Rattle.code.specs.declared.instruction.Instruction.{Instruction}
use Rattle.code.specs.declared.instruction.Instruction.TheVariants as i
use Rattle.nesting.specs.Conditional.{passes}
use Rattle.plan.specs.Plan.{and_then, onward}
use Rattle.state.specs.Piece.{TestText}
use Rattle.state.specs.Prelude.{Course, Dialogue, Outcome, raises, Reads, Status, within}
use Rattle.steps.specs.Follows.{Comes, Follows}
use Rattle.steps.specs.Goes.{reads}
use Rattle.steps.specs.Layout.{FramesAt, LeadsTo, jumps, there}
use Rattle.steps.specs.Machine.{machine}
use Rattle.steps.specs.Places.{Finishes, Compares, Runs, Frame, Skip, beneath, brackets, handlers_beneath, left_of, marks_beneath, onward_of, spot_at}
use Rattle.steps.specs.Spot.{Spot}
use Rattle.steps.specs.Switch.{going}
use Rattle.steps.specs.Tries.{mode_of}
use Rattle.steps.proofs.Leads.Bodies.{body_begins}
use Rattle.steps.proofs.Leads.Grows.{body_grows, rest_grows, taken_ahead}
use Rattle.steps.proofs.Leads.Meanings.{jump_leads}
use Rattle.steps.proofs.Leads.Silent.{same_goes}
use Rattle.steps.proofs.Leads.Standing.{by, silently, stands}
use Rattle.patterns.specs.Glob.{plain}

-- the bodies of patterns, from that of the first one on
abbrev bodies : List (List ℕ) → List (List ℕ)
bodies [] = []
bodies (pattern ∷ more) = more

-- the body of the first pattern, which stands at this place, and then leads to the end
record Stands {A : Type 0} (code : List (Instruction A)) (taken : ℕ) (arms : List (List ℕ))
    (end : ℕ) : Type 0 where
  body : List ℕ
  is : body_of (bodies arms) ≡ Some body
  stop : ℕ
  drops : At code taken i.Discard
  body_at : BodyAt code (taken + 1) body stop
  leads : LeadsTo code stop end

-- a body that is no `-` is that of its pattern
own_body : (body : List ℕ) (more : List (List ℕ)) → bytes_eq body (codes "-") ≡ false →
    body_of (body ∷ more) ≡ Some body
own_body body [] own = refl
own_body body (pattern ∷ more) own = ap (λ b. if b then body_of more else Some body) own

module _ {A X : Type 0} (code : List (Instruction A)) (last : Status → Outcome → Dialogue X) where
  -- a body that is `-` is that of the next pattern
  shared_body : {globs : Bool} {place taken : ℕ} {more : List (List ℕ)} {end : ℕ} →
      ArmsAt code globs place taken more end → body_of (codes "-" ∷ more) ≡ body_of (bodies more)
  shared_body (otherwise drops own body_at) = refl
  shared_body (shares other test more_at) = refl
  shared_body (takes other own test drops body_at jump more_at) = refl

  -- where the body of the first pattern stands
  stands_at : {globs : Bool} {place taken : ℕ} {arms : List (List ℕ)} {end : ℕ} →
      ArmsAt code globs place taken arms end → Stands code taken arms end
  stands_at (otherwise {end = end} {body = body} drops own body_at) = record {
    body = body;
    is = refl;
    stop = end;
    drops = drops;
    body_at = body_at;
    leads = there;
  }
  stands_at (shares other test more_at) =
      let rest = stands_at more_at in record {
        body = rest.body;
        is = shared_body more_at ∙ rest.is;
        stop = rest.stop;
        drops = rest.drops;
        body_at = rest.body_at;
        leads = rest.leads;
      }
  stands_at (takes {jump = jump} {body = body} {more = more} other own test drops body_at jump_at
      more_at) = record {
        body = body;
        is = own_body body more own;
        stop = jump;
        drops = drops;
        body_at = body_at;
        leads = jumps jump_at (rest_grows code more_at);
      }

  -- where the string stands, without what is done with it
  abbrev string_at : ℕ → ℕ → List ℕ → List Frame → Spot
  string_at place levels text fs = record {
    place = place;
    operands = text ∷ beneath fs;
    marks = marks_beneath fs;
    levels = levels;
    handlers = handlers_beneath levels fs;
  }

  -- the string is dropped, and a body runs
  pub runs_lead : (levels end : ℕ) (fs : List Frame) (s : Status) (text body : List ℕ) (place : ℕ) →
      At code place i.Discard → BodyAt code (place + 1) body end → FramesAt code end fs →
      levels + brackets fs ≤ 255 →
      Follows code last
      (machine (slice_get code place) (spot_at place levels (Runs text body) fs) s)
      (left_of last levels (Runs text body) fs s)
  runs_lead levels end fs s text body place drops body_at behind fits =
      by code last i.Discard (spot_at place levels (Runs text body) fs) s _ drops
      (body_begins code last (place + 1) levels body fs end s body_at behind fits)

  -- a body that is chosen comes next
  runs_next : (levels end : ℕ) (fs : List Frame) (s : Status) (text body : List ℕ)
      (taken stop : ℕ) → At code taken i.Discard → BodyAt code (taken + 1) body stop →
      LeadsTo code stop end → FramesAt code end fs → levels + brackets fs ≤ 255 →
      Comes code last (string_at taken levels text fs) s
      (and_then (within levels body s passes) (onward (onward_of last levels fs)))
  runs_next levels end fs s text body taken stop drops body_at there behind fits =
      stands code last taken levels (Runs text body) fs end s (drops, body_at) behind fits
  runs_next levels end fs s text body taken stop drops body_at (jumps jump ahead) behind fits =
      stands code last taken levels (Runs text body) (Skip ∷ fs) stop s (drops, body_at)
      (end, jump, ahead, behind) fits

  -- the one place or the other is next
  going_leads : (it_does : Bool) (taken other : ℕ) (spot : Spot) (s : Status) (one two : Course)
      (levels : ℕ) (fs : List Frame) → spot.place ≤ taken → spot.place ≤ other →
      Comes code last (record spot { place = taken }) s
      (and_then one (onward (onward_of last levels fs))) →
      Comes code last (record spot { place = other }) s
      (and_then two (onward (onward_of last levels fs))) →
      Follows code last (going it_does taken other spot s)
      (and_then (if it_does then one else two) (onward (onward_of last levels fs)))
  going_leads true taken other spot s one two levels fs near far first second =
      jump_leads code last taken spot s _ near first
  going_leads false taken other spot s one two levels fs near far first second =
      jump_leads code last other spot s _ far second

  -- a pattern is held against the string
  test_leads : (globs : Bool) (levels : ℕ) (fs : List Frame) (s : Status) (text pattern : List ℕ)
      (next : Bool → Course) (one two : Course) (place taken other : ℕ) →
      next ≡ (λ it_does. if it_does then one else two) →
      TestAt code globs place pattern taken other → place + 1 ≤ taken → place + 1 ≤ other →
      Comes code last (string_at taken levels text fs) s
      (and_then one (onward (onward_of last levels fs))) →
      Comes code last (string_at other levels text fs) s
      (and_then two (onward (onward_of last levels fs))) →
      Follows code last (machine (slice_get code place) (string_at place levels text fs) s)
      (and_then (tried false (mode_of globs) pattern text s next)
      (onward (onward_of last levels fs)))
  test_leads false levels fs s text pattern next one two place taken other is at near far first second =
      by code last (i.Equals pattern taken other) (string_at place levels text fs) s _ at.test
      (silently code last _
      (same_goes (ap (λ n. and_then (n (bytes_eq pattern text)) (onward (onward_of last levels fs)))
      is))
      (going_leads (bytes_eq pattern text) taken other (string_at (place + 1) levels text fs) s one
      two levels fs near far first second))
  test_leads true levels fs s text pattern next one two place taken other is at near far first second =
      by code last (i.Matches (plain pattern) taken other) (string_at place levels text fs) s _
      at.test
      (λ it_does matches.
      silently code last _
      (same_goes (ap (λ long. and_then
      (if long then raises flaw.PatternTooLong s else Reads (TestText (plain pattern).items text) next)
      (onward (onward_of last levels fs)))
      (le-ltb 1000000 (length pattern) at.short)))
      (silently code last _
      (reads {text = TestText (plain pattern).items text} it_does matches
      (same_goes (ap (λ n. and_then (n it_does) (onward (onward_of last levels fs))) is)))
      (going_leads it_does taken other (string_at (place + 1) levels text fs) s one two levels fs
      near far first second)))

  -- a pattern that is no last default is held against the string
  arm_leads : (globs : Bool) (levels end : ℕ) (fs : List Frame) (s : Status)
      (text pattern body chosen_body : List ℕ) (more : List (List ℕ))
      (place taken other stop : ℕ) → is_default pattern more ≡ false →
      TestAt code globs place pattern taken other → body_of (body ∷ more) ≡ Some chosen_body →
      At code taken i.Discard → BodyAt code (taken + 1) chosen_body stop → LeadsTo code stop end →
      RestAt code globs other more end → place + 1 ≤ taken → place + 1 ≤ other →
      FramesAt code end fs → levels + brackets fs ≤ 255 →
      Follows code last
      (machine (slice_get code place)
      (spot_at place levels (Compares globs text (pattern ∷ body ∷ more)) fs) s)
      (left_of last levels (Compares globs text (pattern ∷ body ∷ more)) fs s)
  arm_leads globs levels end fs s text pattern body chosen_body more place taken other stop not_last
      test is drops body_at leads rest_at near far behind fits =
      let one = runs_body levels s (body_of (body ∷ more)) in
      let two = chosen (mode_of globs) text more s (runs_body levels s) in
      let next = λ (it_does : Bool). if it_does then one else two in
      silently code last _
      (same_goes (ap (λ any. and_then (tried any (mode_of globs) pattern text s next)
      (onward (onward_of last levels fs))) not_last))
      (test_leads globs levels fs s text pattern next one two place taken other refl test near far
      (subst (λ b. Comes code last (string_at taken levels text fs) s
      (and_then (runs_body levels s b) (onward (onward_of last levels fs)))) (sym is)
      (runs_next levels end fs s text chosen_body taken stop drops body_at leads behind fits))
      (stands code last other levels (Compares globs text more) fs end s rest_at behind fits))

  -- the first pattern that is left
  arms_lead : (globs : Bool) (levels end : ℕ) (fs : List Frame) (s : Status) (text : List ℕ)
      (place taken : ℕ) (arms : List (List ℕ)) → ArmsAt code globs place taken arms end →
      FramesAt code end fs → levels + brackets fs ≤ 255 →
      Follows code last
      (machine (slice_get code place) (spot_at place levels (Compares globs text arms) fs) s)
      (left_of last levels (Compares globs text arms) fs s)
  arms_lead globs levels end fs s text place taken arms (otherwise {body = body} drops own body_at)
      behind fits =
      runs_lead levels end fs s text body place drops body_at behind fits
  arms_lead globs levels end fs s text place taken arms (shares {pattern = pattern} {more = more}
      not_last test more_at) behind fits =
      let first = stands_at more_at in
      arm_leads globs levels end fs s text pattern (codes "-") first.body more place taken
      (place + 1) first.stop not_last test (shared_body more_at ∙ first.is) first.drops
      first.body_at first.leads (some_arms more_at) (taken_ahead code more_at) (omega arith) behind
      fits
  arms_lead globs levels end fs s text place taken arms (takes {jump = jump} {pattern = pattern}
      {body = body} {more = more} not_last own test drops body_at jump_at rest_at) behind fits =
      arm_leads globs levels end fs s text pattern body body more place (place + 1) (jump + 1) jump
      not_last test (own_body body more own) drops body_at
      (jumps jump_at (rest_grows code rest_at)) rest_at (omega arith)
      (omega (arith, body_grows code body_at)) behind fits

  -- the patterns that are left
  pub compares_lead : (globs : Bool) (levels place : ℕ) (arms : List (List ℕ)) (end : ℕ)
      (fs : List Frame) (s : Status) (text : List ℕ) → RestAt code globs place arms end →
      FramesAt code end fs → levels + brackets fs ≤ 255 →
      Follows code last
      (machine (slice_get code place) (spot_at place levels (Compares globs text arms) fs) s)
      (left_of last levels (Compares globs text arms) fs s)
  compares_lead globs levels place arms end fs s text (no_match drops empty_at) behind fits =
      by code last i.Discard (spot_at place levels (Compares globs text []) fs) s _ drops
      (stands code last (place + 1) levels Finishes fs (place + 1 + 1) s (empty_at, refl) behind
      fits)
  compares_lead globs levels place arms end fs s text (some_arms {taken = taken} arms_at) behind fits =
      arms_lead globs levels end fs s text place taken arms arms_at behind fits
