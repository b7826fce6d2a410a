-- An open word of which there is something, and a value that is put after its bytes.
use Rattle.std.proofs.Common.{ℕ, ◌+◌, ◌≤◌, List, [], ◌∷◌, ◌++◌, true, false, Option, None, Some, Result, Ok, Err, refl, sym, ap, subst, length, append_assoc, arith, Bool}
use Rattle.std.specs.Prelude.{slice_get, reverse}
use Rattle.code.specs.Code.{JoinsAt, first, joined, PartsAt, over, text, value, item, bracket, WordsAt}
use Rattle.code.specs.declared.instruction.Instruction.{Instruction}
use Rattle.code.specs.declared.instruction.Instruction.TheVariants as i
use Rattle.meanings.specs.Meaning.{IsSplit, flaw_of_list}
use Rattle.plan.specs.Plan.{and_then, onward}
use Rattle.state.specs.Prelude.{Dialogue, Outcome, Status}
use Rattle.state.specs.Variables.{spelled}
use Rattle.steps.specs.Follows.{Follows}
use Rattle.steps.specs.Goes.{here, reads}
use Rattle.steps.specs.Layout.{FramesAt, JoinedAt, OpenAt, OuterAt, WordAt}
use Rattle.steps.specs.Machine.{machine, spread}
use Rattle.steps.specs.Places.{Part, Joins, Gathers, Frame, beneath, brackets, handlers_beneath, course_of, left_of, marks_beneath, onward_of, spot_at}
use Rattle.steps.specs.Spot.{Went}
use Rattle.steps.specs.Word.{Around, Open, Word, Plain, Expands, Operand, Listed, Switched, Last, call_of, word_on}
use Rattle.steps.proofs.Leads.Above.{those}
use Rattle.steps.proofs.Leads.Forwards.{outer_grows}
use Rattle.steps.proofs.Leads.Grows.{joins_grow, parts_grow, words_grow}
use Rattle.steps.proofs.Leads.Lists.{listed_leads}
use Rattle.steps.proofs.Leads.Operands.{elements_after, last_first}
use Rattle.steps.proofs.Leads.Operators.{operand_leads}
use Rattle.steps.proofs.Leads.Parts.{PartLeads, enter_leads, opened, start_leads, text_leads, value_leads, variable_leads}
use Rattle.steps.proofs.Leads.Resumed.{amid_word, failure_leads}
use Rattle.steps.proofs.Leads.Silent.{same_goes}
use Rattle.steps.proofs.Leads.Standing.{by, silently, sooner, stands}
use Rattle.steps.proofs.Leads.LastWords.{last_leads}
use Rattle.steps.proofs.Leads.Strings.{switched_leads}
use Rattle.steps.proofs.Leads.Words.{words_lead}
use Rattle.tclparse.specs.Tree.{Parts, no_parts, Words}
use Rattle.tclstate.specs.Scopes.{read}
use Rattle.tcltext.specs.Flaw.{Flaw}
use Rattle.state.specs.Words.{words}

module _ {A X : Type 0} (code : List (Instruction A)) (last : Status → Outcome → Dialogue X) where
  module _ (levels end : ℕ) (fs : List Frame) (s : Status) where
    -- after {*} the elements of a list are words, or the text is no list
    split_leads : (braced : Bool) (bytes : List ℕ) (before : List (List ℕ)) (rest : Words)
        (place count : ℕ)
        (split : Result (List (List ℕ)) Flaw) → IsSplit bytes split →
        WordsAt code braced true count (place + 1) rest end → FramesAt code end fs →
        levels + brackets fs ≤ 255 →
        Follows code last
        (spread (record {
          place = place + 1;
          operands = before ++ beneath fs;
          marks = length (beneath fs) ∷ marks_beneath fs;
          levels = levels;
          handlers = handlers_beneath levels fs;
        }) s split)
        (and_then (word_on levels (Expands braced before rest) s bytes) (onward (onward_of last
        levels fs)))
    split_leads braced bytes before rest place count (Ok elements) is words_at behind fits =
        subst (λ os. Follows code last
        (Went (record {
          place = place + 1;
          operands = os;
          marks = length (beneath fs) ∷ marks_beneath fs;
          levels = levels;
          handlers = handlers_beneath levels fs;
        }) s)
        (and_then (word_on levels (Expands braced before rest) s bytes) (onward (onward_of last
        levels fs))))
        (append_assoc (reverse elements) before (beneath fs))
        (sooner code last _ s
        (reads (Ok elements) is
        (same_goes (ap (λ ws. and_then (words levels rest ws s (call_of braced levels)) (onward
        (onward_of last levels fs)))
        (sym (elements_after elements before)))))
        (stands code last (place + 1) levels (Gathers braced true (reverse elements ++ before) rest)
        fs end s
        (count, tt, words_at) behind fits))
    split_leads braced bytes before rest place count (Err why) is words_at behind fits =
        silently code last _ (reads (Err why) is here)
        (failure_leads code last (flaw_of_list why) (record {
          place = place + 1;
          operands = before ++ beneath fs;
          marks = length (beneath fs) ∷ marks_beneath fs;
          levels = levels;
          handlers = handlers_beneath levels fs;
        }) levels fs s
        (record {
          end = end;
          behind = behind;
          fits = fits;
          before = words_grow code words_at;
          operands = those before (beneath fs);
          marks = those (length (beneath fs) ∷ []) (marks_beneath fs);
          handlers = refl;
        }))

    -- the value of a word
    word_leads : (bytes : List ℕ) (word : Word) (place : ℕ) → WordAt code place word end →
        FramesAt code end fs → levels + brackets fs ≤ 255 →
        PartLeads code last place levels (opened (Some bytes) no_parts [] word) fs s
    word_leads bytes (Plain braced counted before rest) place at behind fits =
        subst (λ ws. Follows code last
        (machine (slice_get code place) (spot_at place levels (Gathers braced counted (bytes ∷
        before) rest) fs) s)
        (and_then (words levels rest ws s (call_of braced levels)) (onward (onward_of last levels
        fs))))
        (last_first bytes before)
        (words_lead code last levels (bytes ∷ before) fs s braced counted at.0 place rest end at.1
        at.2 behind fits)
    word_leads bytes (Operand outer) place at behind fits =
        operand_leads code last levels end fs s place bytes outer at behind fits
    word_leads bytes (Listed variables body) place at behind fits =
        listed_leads code last levels end fs s bytes variables body place at behind fits
    word_leads bytes (Switched options after) place at behind fits =
        switched_leads code last levels end fs s bytes options after place at behind fits
    word_leads bytes (Last before) place at behind fits =
        last_leads code last levels end fs s bytes before place at.0 at.1 at.2 at.3 behind fits
    word_leads bytes (Expands braced before rest) place at behind fits =
        by code last i.Spread (spot_at place levels (Part (opened (Some bytes) no_parts [] (Expands
        braced before rest))) fs) s _ at.0
        (λ split is.
        split_leads braced bytes before rest place at.1.0 split is at.1.1 behind fits)

    -- the value of a word or of an index
    over_leads : (bytes : List ℕ) (outer : List Around) (word : Word) (place : ℕ) →
        OuterAt code place outer word end → FramesAt code end fs → levels + brackets fs ≤ 255 →
        PartLeads code last place levels (opened (Some bytes) no_parts outer word) fs s
    over_leads bytes [] word place at behind fits =
        word_leads bytes word place
        (subst (λ n. WordAt code n word end) (sym at.around) at.word_at) behind fits
    over_leads bytes (o ∷ outer) word place at behind fits =
        by code last (i.Element o.array) (spot_at place levels (Part (opened (Some bytes) no_parts
        (o ∷ outer) word)) fs) s _ at.around.0
        (value_leads code last (read s.scopes o.array (Some bytes)) (spelled o.array (Some bytes))
        (spot_at (place + 1) levels (Part (opened o.so_far o.parts outer word)) fs) levels fs s
        (amid_word code last (place + 1) levels end (opened o.so_far o.parts outer word) fs
        (omega (
          arith,
          joins_grow code at.around.1.2,
          parts_grow code at.around.1.3,
          outer_grows code at.around.1.1 outer word end
              (record { stop = at.stop; around = at.around.1.4; word_at = at.word_at }),
        )) behind fits) _
        (λ v. course_of levels (Joins v (opened o.so_far o.parts outer word)) s)
        (λ v. stands code last (place + 1) levels (Joins v (opened o.so_far o.parts outer word)) fs
        end s
        (record {
          mid = at.around.1.0;
          joins = at.around.1.2;
          stop = at.around.1.1;
          parts_at = at.around.1.3;
          outer_at = record { stop = at.stop; around = at.around.1.4; word_at = at.word_at };
        })
        behind fits))

    -- the next part of a word of which there is something
    part_leads : (bytes : List ℕ) (outer : List Around) (word : Word) (place : ℕ) (ps : Parts)
        (stop : ℕ) → PartsAt code true place ps stop → OuterAt code stop outer word end →
        FramesAt code end fs → levels + brackets fs ≤ 255 →
        PartLeads code last place levels (opened (Some bytes) ps outer word) fs s
    part_leads bytes outer word place ps stop over outer_at behind fits =
        over_leads bytes outer word place outer_at behind fits
    part_leads bytes outer word place ps stop (text {mid = mid} more_bytes {ps = more} at joins
        rest) outer_at behind fits =
        text_leads code last levels outer word fs s (Some bytes) more_bytes more place mid stop end
        at joins rest outer_at behind fits
    part_leads bytes outer word place ps stop (value {mid = mid} {name = name} {ps = more} at joins
        rest) outer_at behind fits =
        variable_leads code last levels outer word fs s (Some bytes) name more place mid stop end at
        joins rest outer_at behind fits
    part_leads bytes outer word place ps stop (item {at = index_end} {mid = mid} {name = name} {is =
        index} {ps = more} inside at joins rest) outer_at behind fits =
        start_leads code last levels end (record { array = name; so_far = Some bytes; parts = more }
        ∷ outer) word fs s place index index_end inside
        (record {
          stop = outer_at.stop;
          around = (at, (mid, stop, joins, rest, outer_at.around));
          word_at = outer_at.word_at;
        })
        behind fits
    part_leads bytes outer word place ps stop (bracket {at = at} {mid = mid} {cs = cs} {ps = more}
        enter commands leave joins rest) outer_at behind fits =
        enter_leads code last levels outer word fs s (Some bytes) cs more place at end enter
        commands leave
        (record { mid = mid; joins = joins; stop = stop; parts_at = rest; outer_at = outer_at })
        behind fits

    -- an open word
    pub open_leads : (so_far : Option (List ℕ)) (outer : List Around) (word : Word) (place : ℕ)
        (ps : Parts) → OpenAt code place (opened so_far ps outer word) end →
        FramesAt code end fs → levels + brackets fs ≤ 255 →
        PartLeads code last place levels (opened so_far ps outer word) fs s
    open_leads None outer word place ps at behind fits =
        start_leads code last levels end outer word fs s place ps at.stop at.parts_at at.outer_at
        behind fits
    open_leads (Some bytes) outer word place ps at behind fits =
        part_leads bytes outer word place ps at.stop at.parts_at at.outer_at behind fits

    -- a value that is put after the bytes of an open word
    abbrev JoinLeads : List ℕ → ℕ → Open → Type 0
    JoinLeads v place word =
        Follows code last
        (machine (slice_get code place) (spot_at place levels (Joins v word) fs) s)
        (left_of last levels (Joins v word) fs s)

    -- it is the word so far
    first_leads : (value : List ℕ) (outer : List Around) (word : Word) (ps : Parts) (stop : ℕ)
        (place mid : ℕ) → JoinsAt code false place mid → PartsAt code true mid ps stop →
        OuterAt code stop outer word end → FramesAt code end fs → levels + brackets fs ≤ 255 →
        JoinLeads value place (opened None ps outer word)
    first_leads v outer word ps stop place mid first parts_at outer_at behind fits =
        part_leads v outer word place ps stop parts_at outer_at behind fits

    -- it is joined to the word so far
    joined_leads : (value bytes : List ℕ) (outer : List Around) (word : Word) (ps : Parts)
        (stop : ℕ) (place mid : ℕ) → JoinsAt code true place mid → PartsAt code true mid ps stop →
        OuterAt code stop outer word end → FramesAt code end fs → levels + brackets fs ≤ 255 →
        JoinLeads value place (opened (Some bytes) ps outer word)
    joined_leads v bytes outer word ps stop place mid (joined at) parts_at outer_at behind fits =
        by code last i.Join (spot_at place levels (Joins v (opened (Some bytes) ps outer word)) fs)
        s _ at
        (stands code last (place + 1) levels (Part (opened (Some (bytes ++ v)) ps outer word)) fs
        end s
        (record { stop = stop; parts_at = parts_at; outer_at = outer_at }) behind fits)

    pub joins_lead : (value : List ℕ) (so_far : Option (List ℕ)) (outer : List Around) (word : Word)
        (place : ℕ) (ps : Parts) → JoinedAt code place (opened so_far ps outer word) end →
        FramesAt code end fs → levels + brackets fs ≤ 255 →
        JoinLeads value place (opened so_far ps outer word)
    joins_lead v None outer word place ps at behind fits =
        first_leads v outer word ps at.stop place at.mid at.joins at.parts_at at.outer_at behind
        fits
    joins_lead v (Some bytes) outer word place ps at behind fits =
        joined_leads v bytes outer word ps at.stop place at.mid at.joins at.parts_at at.outer_at
        behind fits
