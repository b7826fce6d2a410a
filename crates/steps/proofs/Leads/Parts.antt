-- The parts of an open word of which there is nothing yet, and each kind of part.
use Rattle.std.proofs.Common.{ℕ, zero, suc, ◌+◌, ◌≤◌, List, [], ◌∷◌, true, false, Option, None, Some, Result, Ok, Err, refl, ap, arith}
use Rattle.std.specs.Prelude.{is_some, slice_get}
use Rattle.acts.specs.Flaw as flaw
use Rattle.code.specs.Code.{At, JoinsAt, PartsAt, over, empty, text, value, item, bracket, CommandsAt, none}
use Rattle.code.specs.declared.instruction.Instruction.{Instruction}
use Rattle.code.specs.declared.instruction.Instruction.TheVariants as i
use Rattle.plan.specs.Plan.{and_then, onward}
use Rattle.state.specs.Prelude.{Course, Dialogue, Outcome, Status}
use Rattle.state.specs.Variables.{flaw_of_trouble, found, spelled}
use Rattle.steps.specs.Follows.{Follows}
use Rattle.steps.specs.Goes.{here, calls}
use Rattle.steps.specs.Layout.{FramesAt, OuterAt, JoinedAt}
use Rattle.steps.specs.Machine.{machine, with_value}
use Rattle.steps.specs.Places.{Has, Part, Joins, Frame, Rest, Bracket, brackets, course_of, left_of, onward_of, spot_at}
use Rattle.steps.specs.Spot.{Spot, Did}
use Rattle.steps.specs.Word.{Around, Open, Word, bytes_of, index_on, word_on}
use Rattle.steps.proofs.Leads.Forwards.{joined_grows, outer_grows}
use Rattle.steps.proofs.Leads.Grows.{commands_grow, joins_grow, parts_grow}
use Rattle.steps.proofs.Leads.Resumed.{Amid, amid_word, failure_leads}
use Rattle.steps.proofs.Leads.Silent.{same_goes}
use Rattle.steps.proofs.Leads.Standing.{by, sooner, stands}
use Rattle.tclparse.specs.Tree.{Parts, no_parts, variable, script, Commands, bytes_then}
use Rattle.tclstate.specs.Scopes.{Trouble, read}
use Rattle.state.proofs.Words.{literal}

-- an open word by its parts
abbrev pub opened : Option (List ℕ) → Parts → List Around → Word → Open
opened so_far ps outer word =
    record { so_far = so_far; parts = ps; outer = outer; word = word }

module _ {A X : Type 0} (code : List (Instruction A)) (last : Status → Outcome → Dialogue X) where
  -- an open word leads on with its next part
  abbrev pub PartLeads : ℕ → ℕ → Open → List Frame → Status → Type 0
  PartLeads place levels word frames s =
      Follows code last
      (machine (slice_get code place) (spot_at place levels (Part word) frames) s)
      (left_of last levels (Part word) frames s)

  -- the value of a variable, or its error
  pub value_leads : (r : Result (List ℕ) Trouble) (name : List ℕ) (spot : Spot) (levels : ℕ)
      (fs : List Frame) (s : Status) → Amid code last spot levels fs → (next : List ℕ → Did)
      (course : List ℕ → Course) →
      ((v : List ℕ) → Follows code last (next v)
      (and_then (course v) (onward (onward_of last levels fs)))) →
      Follows code last (with_value r name spot s next)
      (and_then (found r name s course) (onward (onward_of last levels fs)))
  value_leads (Ok v) name spot levels fs s amid next course f = f v
  value_leads (Err trouble) name spot levels fs s amid next course f =
      failure_leads code last (flaw_of_trouble trouble name) spot levels fs s amid

  module _ (levels : ℕ) (outer : List Around) (word : Word) (fs : List Frame) (s : Status) where
    -- a literal text
    pub text_leads : (so_far : Option (List ℕ)) (bytes : List ℕ) (ps : Parts)
        (place mid stop end : ℕ) → At code place (i.Text bytes) →
        JoinsAt code (is_some so_far) (place + 1) mid → PartsAt code true mid ps stop →
        OuterAt code stop outer word end → FramesAt code end fs → levels + brackets fs ≤ 255 →
        PartLeads place levels (opened so_far (bytes_then bytes ps) outer word) fs s
    text_leads so_far bytes ps place mid stop end at joins parts_at outer_at behind fits =
        by code last (i.Text bytes) (spot_at place levels (Part (opened so_far (bytes_then bytes ps)
        outer word)) fs) s _ at
        (sooner code last _ s
        (same_goes (ap (λ c. and_then c (onward (onward_of last levels fs)))
        (literal levels bytes ps (bytes_of so_far) s (index_on levels outer (word_on levels
        word)))))
        (stands code last (place + 1) levels (Joins bytes (opened so_far ps outer word)) fs end s
        (record { mid = mid; joins = joins; stop = stop; parts_at = parts_at; outer_at = outer_at })
        behind fits))

    -- a variable
    pub variable_leads : (so_far : Option (List ℕ)) (name : List ℕ) (ps : Parts)
        (place mid stop end : ℕ) → At code place (i.Variable name) →
        JoinsAt code (is_some so_far) (place + 1) mid → PartsAt code true mid ps stop →
        OuterAt code stop outer word end → FramesAt code end fs → levels + brackets fs ≤ 255 →
        PartLeads place levels (opened so_far (variable name ps) outer word) fs s
    variable_leads so_far name ps place mid stop end at joins parts_at outer_at behind fits =
        by code last (i.Variable name) (spot_at place levels (Part (opened so_far (variable name ps)
        outer word)) fs) s _ at
        (value_leads (read s.scopes name None) (spelled name None) (spot_at (place + 1) levels (Part
        (opened so_far (variable name ps) outer word)) fs) levels fs s
        (amid_word code last (place + 1) levels end (opened so_far (variable name ps) outer word) fs
        (omega (
          arith,
          joins_grow code joins,
          parts_grow code parts_at,
          outer_grows code stop outer word end outer_at,
        )) behind fits) _
        (λ v. course_of levels (Joins v (opened so_far ps outer word)) s)
        (λ v. stands code last (place + 1) levels (Joins v (opened so_far ps outer word)) fs end s
        (record { mid = mid; joins = joins; stop = stop; parts_at = parts_at; outer_at = outer_at })
        behind fits))

  -- a script in brackets begins, where a level is left
  pub enter_leads : (levels : ℕ) (outer : List Around) (word : Word) (fs : List Frame) (s : Status)
      (so_far : Option (List ℕ)) (cs : Commands) (ps : Parts) (place at end : ℕ) →
      At code place i.Enter → CommandsAt code (place + 1) cs at → At code at i.Leave →
      JoinedAt code (at + 1) (opened so_far ps outer word) end → FramesAt code end fs →
      levels + brackets fs ≤ 255 →
      PartLeads place levels (opened so_far (script cs ps) outer word) fs s
  enter_leads zero outer word fs s so_far cs ps place at end enter commands leave joined behind
      fits =
      by code last i.Enter (spot_at place zero (Part (opened so_far (script cs ps) outer word)) fs)
      s _ enter
      (failure_leads code last flaw.TooManyNested (spot_at (place + 1) zero (Part (opened so_far (script cs ps) outer
      word)) fs) zero fs s
      (amid_word code last (place + 1) zero end (opened so_far (script cs ps) outer word) fs
      (omega (
        arith,
        commands_grow code commands,
        joined_grows code (at + 1) (opened so_far ps outer word) end joined,
      )) behind fits))
  enter_leads (suc levels) outer word fs s so_far cs ps place at end enter commands leave joined
      behind fits =
      by code last i.Enter (spot_at place (suc levels) (Part (opened so_far (script cs ps) outer
      word)) fs) s _ enter
      (sooner code last _ s (calls here)
      (stands code last (place + 1) levels (Has []) (Rest cs None ∷ Bracket (opened so_far ps outer
      word) ∷ fs) (place + 1) s refl
      (at, record { mid = at; commands = commands; ends = none }, (leave, (end, joined, behind)))
      (omega (arith, fits))))

  -- the first part of a word or of an index
  pub start_leads : (levels end : ℕ) (outer : List Around) (word : Word) (fs : List Frame)
      (s : Status) (place : ℕ) (ps : Parts) (stop : ℕ) → PartsAt code false place ps stop →
      OuterAt code stop outer word end → FramesAt code end fs → levels + brackets fs ≤ 255 →
      PartLeads place levels (opened None ps outer word) fs s
  start_leads levels end outer word fs s place ps stop (empty at) outer_at behind fits =
      by code last (i.Text []) (spot_at place levels (Part (opened None no_parts outer word)) fs) s
      _ at
      (stands code last (place + 1) levels (Part (opened (Some []) no_parts outer word)) fs end s
      (record { stop = stop; parts_at = over; outer_at = outer_at }) behind fits)
  start_leads levels end outer word fs s place ps stop (text {mid = mid} bytes {ps = more} at joins
      rest) outer_at behind fits =
      text_leads levels outer word fs s None bytes more place mid stop end at joins rest outer_at
      behind fits
  start_leads levels end outer word fs s place ps stop (value {mid = mid} {name = name} {ps = more}
      at joins rest) outer_at behind fits =
      variable_leads levels outer word fs s None name more place mid stop end at joins rest outer_at
      behind fits
  start_leads levels end outer word fs s place ps stop (item {at = index_end} {mid = mid} {name =
      name} {is = index} {ps = more} inside at joins rest) outer_at behind fits =
      start_leads levels end (record { array = name; so_far = None; parts = more } ∷ outer) word fs
      s place index index_end inside
      (record {
        stop = outer_at.stop;
        around = (at, (mid, stop, joins, rest, outer_at.around));
        word_at = outer_at.word_at;
      })
      behind fits
  start_leads levels end outer word fs s place ps stop (bracket {at = at} {mid = mid} {cs = cs}
      {ps = more} enter commands leave joins rest) outer_at behind fits =
      enter_leads levels outer word fs s None cs more place at end enter commands leave
      (record { mid = mid; joins = joins; stop = stop; parts_at = rest; outer_at = outer_at })
      behind fits
