-- The value of the string of a switch is on top.
use Rattle.std.proofs.Common.{◌≡◌, ◌∙◌, ℕ, ◌+◌, ◌<◌, ◌≤◌, Bool, true, false, List, [], ◌∷◌, ◌++◌, codes, length, Option, Some, None, Ok, append_assoc, refl, sym, ap, subst, arith, if◌then◌else◌}
use Rattle.std.proofs.lemmas.Bool.{and_left, le-leb, lt-leb, ne_eqb}
use Rattle.std.specs.Prelude.{◌==◌, ◌||◌, not}
use Rattle.nesting.proofs.Choosing.{arms_tried}
use Rattle.std.specs.Str.{bytes_eq}
use Rattle.nesting.specs.Switch as definition
use Rattle.nesting.specs.Switch.{Exact, Mode, behind_flag, chosen, left_over, on_flags, on_words, runs_body, switch, wrong_word}
use Rattle.code.specs.Code.{ArmsAt, RestAt, SwitchAt, no_match, otherwise, shares, some_arms, takes, with_arms}
use Rattle.code.specs.Switch.{AreArms, are_globs, of_list, of_words, option_words, words_before}
use Rattle.code.specs.declared.instruction.Instruction.{Instruction}
use Rattle.code.specs.declared.instruction.Instruction.TheVariants as i
use Rattle.code.specs.declared.options.Flag.{Flag}
use Rattle.code.specs.declared.options.Flag.TheVariants as flag
use Rattle.code.specs.declared.options.Options.{Options}
use Rattle.plan.specs.Plan.{and_then, onward}
use Rattle.runs.specs.Commands.{called, command}
use Rattle.state.specs.Arguments.{begins_with_dash}
use Rattle.state.specs.Piece.{ListText}
use Rattle.state.specs.Prelude.{Dialogue, Outcome, Status}
use Rattle.steps.specs.Follows.{Follows}
use Rattle.steps.specs.Goes.{Goes, reads}
use Rattle.steps.specs.Layout.{FramesAt}
use Rattle.steps.specs.Places.{Part, Compares, Frame, beneath, brackets, handlers_beneath, marks_beneath, onward_of, spot_at}
use Rattle.steps.specs.Spot.{Spot, Begins, Stuck, Went}
use Rattle.steps.specs.Switch.{by_words, hidden, is_string}
use Rattle.steps.specs.Tries.{mode_of}
use Rattle.steps.specs.Word.{Switched}
use Rattle.steps.proofs.Leads.Grows.{rest_grows}
use Rattle.state.proofs.Words.{literal_words}
use Rattle.steps.proofs.Leads.Parts.{PartLeads, opened}
use Rattle.steps.proofs.Leads.Resumed.{outcome_leads}
use Rattle.steps.proofs.Leads.Silent.{same_goes}
use Rattle.steps.proofs.Leads.Standing.{by, sooner, stands}
use Rattle.tclparse.specs.Tree.{no_parts, literals}
use Rattle.tclstate.specs.Pairs.{found}
use Rattle.tclstate.specs.Procs.{Procedure}
use Rattle.state.specs.Words.{words}

-- a text that begins with no dash is no word that does
no_dash : (text rest : List ℕ) → begins_with_dash text ≡ false → bytes_eq text (45 ∷ rest) ≡ false
no_dash [] rest plain = refl
no_dash (b ∷ text) rest plain = and_left (b == 45) (bytes_eq text rest) plain

dash_not : (b : Bool) → not b ≡ true → b ≡ false
dash_not true is = absurd cc
dash_not false is = refl

module _ (levels : ℕ) (text : List ℕ) (s : Status) where
  -- the words after the flag, where the string begins with no dash
  behind_plain : (mode : Mode) (after : List (List ℕ)) → begins_with_dash text ≡ false →
      behind_flag levels mode (text ∷ after) s ≡ on_words levels mode (text ∷ after) s
  behind_plain mode after plain =
      ap (λ b. if b then on_words levels mode after s
      else if begins_with_dash text then wrong_word text s
      else on_words levels mode (text ∷ after) s) (no_dash text (45 ∷ []) plain)
      ∙ ap (λ b. if b then wrong_word text s else on_words levels mode (text ∷ after) s) plain

  -- the words of which the string is the first one, where it begins with no dash
  flags_plain : (after : List (List ℕ)) → begins_with_dash text ≡ false →
      on_flags levels (text ∷ after) s ≡ on_words levels Exact (text ∷ after) s
  flags_plain after plain =
      ap (λ b. if b then behind_flag levels Exact after s
      else if bytes_eq text (codes "-glob") then behind_flag levels definition.Glob after s
      else behind_flag levels Exact (text ∷ after) s)
      (no_dash text (codes "exact") plain)
      ∙ ap (λ b. if b then behind_flag levels definition.Glob after s
      else behind_flag levels Exact (text ∷ after) s) (no_dash text (codes "glob") plain)
      ∙ behind_plain Exact after plain

  -- three words, or more, may have a flag
  many_words : (args : List (List ℕ)) → 2 < length args →
      switch levels args s ≡ on_flags levels args s
  many_words args many =
      ap (λ b. if b then on_words levels Exact args s else on_flags levels args s)
      (lt-leb (length args) 2 many)

  -- the words after some options
  abbrev args_of : Options → List (List ℕ) → List (List ℕ)
  args_of options after = option_words options ++ text ∷ after

  -- where the string is no option, the words are it and those after it
  abbrev IsRead : Options → List (List ℕ) → Type 0
  IsRead options after = switch levels (args_of options after) s
      ≡ on_words levels (mode_of (are_globs options.flag)) (text ∷ after) s

  -- the string is the first of two words, or begins with no dash
  plain_read : (after : List (List ℕ)) →
      is_string (record { flag = None; dashes = false }) text after ≡ true → 0 < length after →
      IsRead (record { flag = None; dashes = false }) after
  plain_read [] is some = absurd (omega arith)
  plain_read (list ∷ []) is some = refl
  plain_read (pattern ∷ body ∷ more) is some =
      let many : (length (pattern ∷ body ∷ more) == 1) ≡ false =
      ne_eqb (length (pattern ∷ body ∷ more)) 1 (λ one. absurd (omega (arith, one))) in
      many_words (text ∷ pattern ∷ body ∷ more) (omega arith)
      ∙ flags_plain (pattern ∷ body ∷ more) (dash_not (begins_with_dash text)
      (sym (ap (λ b. b || not (begins_with_dash text)) many) ∙ is))

  -- the string stands after options, or there are none
  option_read : (flag : Option Flag) (dashes : Bool) (after : List (List ℕ)) →
      is_string (record { flag = flag; dashes = dashes }) text after ≡ true → 0 < length after →
      IsRead (record { flag = flag; dashes = dashes }) after
  option_read None false after is some = plain_read after is some
  option_read None true after is some =
      many_words (codes "--" ∷ text ∷ after) (omega arith)
  option_read (Some flag.Exact) false after is some =
      many_words (codes "-exact" ∷ text ∷ after) (omega arith)
      ∙ behind_plain Exact after (dash_not (begins_with_dash text) is)
  option_read (Some flag.Exact) true after is some =
      many_words (codes "-exact" ∷ codes "--" ∷ text ∷ after) (omega arith)
  option_read (Some flag.Glob) false after is some =
      many_words (codes "-glob" ∷ text ∷ after) (omega arith)
      ∙ behind_plain definition.Glob after (dash_not (begins_with_dash text) is)
  option_read (Some flag.Glob) true after is some =
      many_words (codes "-glob" ∷ codes "--" ∷ text ∷ after) (omega arith)

-- patterns and bodies are at least one word
arms_some : (arms after : List (List ℕ)) → AreArms arms after → 0 < length after
arms_some arms after (of_list is) = omega arith
arms_some arms after (of_words many) = omega arith

module _ {A X : Type 0} (code : List (Instruction A)) (last : Status → Outcome → Dialogue X) where
  -- a pattern and its body before others, of which one may be left over
  more_over : {globs : Bool} {place taken : ℕ} {more : List (List ℕ)} {end : ℕ}
      (pattern body : List ℕ) → ArmsAt code globs place taken more end →
      left_over (pattern ∷ body ∷ more) ≡ left_over more
  more_over pattern body (otherwise drops own body_at) = refl
  more_over pattern body (shares other test more_at) = refl
  more_over pattern body (takes other own test drops body_at jump more_at) = refl

  -- no pattern or body is left over
  mutual
    none_over : {globs : Bool} {place : ℕ} {arms : List (List ℕ)} {end : ℕ} →
        RestAt code globs place arms end → left_over arms ≡ None
    none_over (no_match drops empty_at) = refl
    none_over (some_arms arms_at) = no_arm_over arms_at

    no_arm_over : {globs : Bool} {place taken : ℕ} {arms : List (List ℕ)} {end : ℕ} →
        ArmsAt code globs place taken arms end → left_over arms ≡ None
    no_arm_over (otherwise {body = body} drops own body_at) =
        ap (λ b. if b then Some body else None) own
    no_arm_over (shares {pattern = pattern} other test more_at) =
        more_over pattern (codes "-") more_at ∙ no_arm_over more_at
    no_arm_over (takes {pattern = pattern} {body = body} other own test drops body_at jump rest_at) =
        rest_over pattern body own rest_at

    rest_over : {globs : Bool} {place : ℕ} {more : List (List ℕ)} {end : ℕ}
        (pattern body : List ℕ) → bytes_eq body (codes "-") ≡ false →
        RestAt code globs place more end → left_over (pattern ∷ body ∷ more) ≡ None
    rest_over pattern body own (no_match drops empty_at) =
        ap (λ b. if b then Some body else None) own
    rest_over pattern body own (some_arms more_at) =
        more_over pattern body more_at ∙ no_arm_over more_at

  module _ (levels end : ℕ) (fs : List Frame) (s : Status) (text : List ℕ) where
    -- the patterns and bodies are tried, once they are read as a list where they are one
    words_tried : (mode : Mode) (arms after : List (List ℕ)) → AreArms arms after →
        left_over arms ≡ None →
        Goes
        (and_then (on_words levels mode (text ∷ after) s) (onward (onward_of last levels fs)))
        (and_then (chosen mode text arms s (runs_body levels s))
        (onward (onward_of last levels fs)))
    words_tried mode arms after (of_list {list = list} is) none =
        reads {text = ListText list} (Ok arms) is
        (same_goes (ap (λ c. and_then c (onward (onward_of last levels fs)))
        (arms_tried levels mode text arms s none)))
    words_tried mode [] after (of_words many) none = absurd (omega arith)
    words_tried mode (pattern ∷ []) after (of_words many) none = absurd (omega arith)
    words_tried mode (pattern ∷ body ∷ more) after (of_words many) none =
        same_goes (ap (λ c. and_then c (onward (onward_of last levels fs)))
        (arms_tried levels mode text (pattern ∷ body ∷ more) s none))

    -- the string on top
    abbrev string_at : ℕ → Spot
    string_at place = record {
      place = place;
      operands = text ∷ beneath fs;
      marks = marks_beneath fs;
      levels = levels;
      handlers = handlers_beneath levels fs;
    }

    -- what follows the string
    abbrev behind_string : Options → List (List ℕ) → Dialogue X
    behind_string options after =
        and_then (words levels (literals after) (words_before options ++ text ∷ []) s
        (command levels)) (onward (onward_of last levels fs))

    -- the words of the command
    words_are : (options : Options) (after : List (List ℕ)) →
        words levels (literals after) (words_before options ++ text ∷ []) s (command levels)
        ≡ command levels s (words_before options ++ text ∷ after)
    words_are options after =
        literal_words levels after (words_before options ++ text ∷ []) s (command levels)
        ∙ ap (command levels s) (append_assoc (words_before options) (text ∷ []) after)

    -- it begins by its words
    by_words_leads : (options : Options) (after : List (List ℕ)) (place : ℕ) → place ≤ end →
        FramesAt code end fs → levels + brackets fs ≤ 255 →
        Follows code last (by_words options after end (string_at place) s)
        (behind_string options after)
    by_words_leads options after place ahead behind fits =
        subst (λ b. Follows code last
        (if b then Begins (words_before options ++ text ∷ after) (record {
          place = end;
          operands = beneath fs;
          marks = marks_beneath fs;
          levels = levels;
          handlers = handlers_beneath levels fs;
        }) s else Stuck) (behind_string options after))
        (sym (le-leb place end ahead))
        (record {
          next = onward_of last levels fs;
          goes = same_goes (ap (λ c. and_then c (onward (onward_of last levels fs)))
              (words_are options after));
          resumes = λ t outcome. outcome_leads code last end levels fs t behind fits outcome;
        })

    -- no procedure hides the command: where the string is no option, its patterns are tried
    choosing_leads : (free : Bool) (options : Options) (after arms : List (List ℕ)) (place : ℕ) →
        is_string options text after ≡ free → found s.procedures (codes "switch") ≡ None →
        AreArms arms after → RestAt code (are_globs options.flag) place arms end →
        FramesAt code end fs → levels + brackets fs ≤ 255 →
        Follows code last
        (if free then Went (string_at place) s else by_words options after end (string_at place) s)
        (behind_string options after)
    choosing_leads false options after arms place is none are rest_at behind fits =
        by_words_leads options after place (rest_grows code rest_at) behind fits
    choosing_leads true options after arms place is none are rest_at behind fits =
        sooner code last _ s
        (same_goes (ap (λ c. and_then c (onward (onward_of last levels fs)))
        (words_are options after
        ∙ ap (λ p. called p levels (codes "switch") (option_words options ++ text ∷ after) s) none
        ∙ option_read levels text s options.flag options.dashes after is
        (arms_some arms after are))))
        (sooner code last _ s
        (words_tried (mode_of (are_globs options.flag)) arms after are (none_over rest_at))
        (stands code last place levels (Compares (are_globs options.flag) text arms) fs end s rest_at
        behind fits))

    -- a procedure hides the command, or none does
    hidden_leads : (procedure : Option Procedure) (options : Options) (after arms : List (List ℕ))
        (place : ℕ) → found s.procedures (codes "switch") ≡ procedure → AreArms arms after →
        RestAt code (are_globs options.flag) place arms end → FramesAt code end fs →
        levels + brackets fs ≤ 255 →
        Follows code last (hidden procedure options after end (string_at place) s)
        (behind_string options after)
    hidden_leads None options after arms place is are rest_at behind fits =
        choosing_leads (is_string options text after) options after arms place refl is are rest_at
        behind fits
    hidden_leads (Some procedure) options after arms place is are rest_at behind fits =
        by_words_leads options after place (rest_grows code rest_at) behind fits

  -- the value of the string
  pub switched_leads : (levels end : ℕ) (fs : List Frame) (s : Status) (text : List ℕ)
      (options : Options) (after : List (List ℕ)) (place : ℕ) →
      SwitchAt code place options after end → FramesAt code end fs → levels + brackets fs ≤ 255 →
      PartLeads code last place levels (opened (Some text) no_parts [] (Switched options after)) fs s
  switched_leads levels end fs s text options after place (with_arms {arms = arms} held holds are at
      rest_at) behind fits =
      by code last (i.Switch options held end) (spot_at place levels (Part (opened (Some text)
      no_parts [] (Switched options after))) fs) s _ at
      (subst (λ ws. Follows code last
      (hidden (found s.procedures (codes "switch")) options ws end
      (string_at levels end fs s text (place + 1)) s)
      (behind_string levels end fs s text options after)) (sym holds)
      (hidden_leads levels end fs s text (found s.procedures (codes "switch")) options after arms
      (place + 1) refl are rest_at behind fits))
