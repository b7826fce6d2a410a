-- A command that has code of its own.
use Rattle.std.proofs.Common.{◌≡◌, ◌∙◌, ℕ, ◌+◌, ◌≤◌, List, [], ◌∷◌, Bool, false, Option, Some, None, codes, true, refl, ap, subst, sym, arith, if◌then◌else◌}
use Rattle.std.proofs.lemmas.Slice.Eq.{bytes_eq-Decides}
use Rattle.std.specs.Prelude.{slice_get}
use Rattle.std.specs.Str.{bytes_eq}
use Rattle.code.specs.Code.{At, CommandAt, by_words, own, foreach_loop, switched, direct, OwnAt, conditional, while_loop, for_loop, evaluated, valued, argued, BranchesAt, branch, no_else, at_last, WordsAt, one, over, caught, first as first_of, text as text_at}
use Rattle.code.specs.Argument.{is_braced, takes_branches}
use Rattle.code.specs.Switch.{words_before}
use Rattle.code.specs.declared.instruction.Instruction.{Instruction}
use Rattle.code.specs.declared.instruction.Instruction.TheVariants as i
use Rattle.code.specs.Branches.{Branch}
use Rattle.nesting.specs.Conditional.{on_branches}
use Rattle.dialog.specs.declared.standing.Side.TheVariants.{After, Before}
use Rattle.expects.proofs.Answering.{after_name}
use Rattle.expects.specs.Expect.{by_argument, by_name, by_words as said_by}
use Rattle.expects.specs.Words.{Form, Stands, Waits, named}
use Rattle.plan.specs.Plan.{and_then, onward}
use Rattle.pure.specs.Concat.{concatenated}
use Rattle.runs.specs.Commands.{called, command}
use Rattle.state.specs.Piece.{ArgumentText, ScriptText}
use Rattle.state.specs.Prelude.{Dialogue, Outcome, Status}
use Rattle.steps.specs.Follows.{Comes, Follows}
use Rattle.steps.specs.Goes.{here, reads}
use Rattle.steps.specs.Layout.{FramesAt}
use Rattle.steps.specs.Machine.{machine, unhidden}
use Rattle.steps.specs.Operand.{Condition, Resulting}
use Rattle.steps.specs.Places.{Has, Gathers, Expresses, Starts, Chooses, Frame, Skip, brackets, left_of, onward_of, spot_at}
use Rattle.steps.proofs.Leads.Bodies.{body_begins, body_read, enters_leads}
use Rattle.steps.proofs.Leads.Catches.{catch_begins}
use Rattle.steps.proofs.Leads.Formulas.{expression_leads}
use Rattle.steps.proofs.Leads.Grows.{branches_grow, own_grows, words_grow}
use Rattle.state.proofs.Words.{literal, literal_words, text_words}
use Rattle.steps.proofs.Leads.Loops.{for_begins, while_begins}
use Rattle.steps.proofs.Leads.Meanings.{jump_leads}
use Rattle.steps.proofs.Leads.Parts.{start_leads}
use Rattle.steps.proofs.Leads.Silent.{same_goes}
use Rattle.steps.proofs.Leads.Standing.{by, silently, sooner, stands}
use Rattle.steps.proofs.Leads.Words.{words_lead}
use Rattle.steps.specs.Word.{Last, Listed, Switched}
use Rattle.tclparse.specs.Tree.{Words, bytes_then, no_parts, no_words, word, literals}
use Rattle.tclstate.specs.Pairs.{found}
use Rattle.tclstate.specs.Procs.{Procedure}
use Rattle.state.specs.Words.{words}

module _ {A X : Type 0} (code : List (Instruction A)) (last : Status → Outcome → Dialogue X) where
  -- the branches that are left
  pub chooses_lead : (levels end : ℕ) (fs : List Frame) (s : Status) (place : ℕ)
      (more : List Branch) (otherwise : Option (List ℕ)) → BranchesAt code place more otherwise end →
      FramesAt code end fs → levels + brackets fs ≤ 255 →
      Follows code last
      (machine (slice_get code place) (spot_at place levels (Chooses more otherwise) fs) s)
      (left_of last levels (Chooses more otherwise) fs s)
  chooses_lead levels end fs s place more otherwise at behind fits =
      choice place end more otherwise at behind
    where
      choice : (place end : ℕ) (more : List Branch) (otherwise : Option (List ℕ)) →
          BranchesAt code place more otherwise end → FramesAt code end fs →
          Follows code last
          (machine (slice_get code place) (spot_at place levels (Chooses more otherwise) fs) s)
          (left_of last levels (Chooses more otherwise) fs s)
      choice place end [] None (no_else at) behind =
          by code last (i.Text []) (spot_at place levels (Chooses [] None) fs) s _ at
          (stands code last (place + 1) levels (Has []) fs (place + 1) s refl behind fits)
      choice place end [] (Some body) (at_last at) behind =
          let read = body_read code at in
          silently code last _ (reads {text = ScriptText body} read.tree read.is here)
          (enters_leads code last levels read.tree fs s place end read.at behind fits)
      choice place end (first ∷ more) otherwise
          (branch {unless = mid} {jump = jump} test_at unless body_at jump_at rest) behind =
          expression_leads code last levels end fs s (Condition first.body more otherwise ∷ [])
          place first.test mid test_at
          (jump, unless, body_at, jump_at, branches_grow code rest, rest) behind fits

  -- a command that takes branches, with an argument in braces
  record Takes (levels : ℕ) (name text : List ℕ) (s : Status) : Type 0 where
    form : Form
    is : named name ≡ Some form
    does : called None levels name (text ∷ []) s ≡ by_argument form levels text s

  takes_argument : (levels : ℕ) (name text : List ℕ) (s : Status) → takes_branches name ≡ true →
      is_braced text ≡ true → Takes levels name text s
  takes_argument levels name text s takes braced =
      by_name_of (bytes_eq name (codes "expect")) (bytes_eq name (codes "expect_before")) refl refl
      takes
    where
      known : (n : List ℕ) → bytes_eq name n ≡ true → Takes levels n text s →
          Takes levels name text s
      known n same it =
          subst (λ it. Takes levels it text s) (sym ((bytes_eq-Decides name n).0 same)) it

      by_name_of : (waits before : Bool) → bytes_eq name (codes "expect") ≡ waits →
          bytes_eq name (codes "expect_before") ≡ before →
          (if waits then true else if before then true else bytes_eq name (codes "expect_after"))
          ≡ true → Takes levels name text s
      by_name_of true before is same takes_it = known (codes "expect") is (record {
        form = Waits;
        is = refl;
        does = ap (λ b. if b then by_argument Waits levels text s
            else said_by Waits levels s (text ∷ [])) braced;
      })
      by_name_of false true is same takes_it = known (codes "expect_before") same (record {
        form = Stands Before;
        is = refl;
        does = ap (λ b. if b then by_argument (Stands Before) levels text s
            else said_by (Stands Before) levels s (text ∷ [])) braced;
      })
      by_name_of false false is same takes_it = known (codes "expect_after") takes_it (record {
        form = Stands After;
        is = refl;
        does = ap (λ b. if b then by_argument (Stands After) levels text s
            else said_by (Stands After) levels s (text ∷ [])) braced;
      })

  -- the command of this name has code of its own, and no procedure hides it
  own_begins : (levels : ℕ) (fs : List Frame) (s : Status) (name : List ℕ) (place : ℕ)
      (args : List (List ℕ)) (end : ℕ) → found s.procedures name ≡ None →
      OwnAt code name place args end → FramesAt code end fs → levels + brackets fs ≤ 255 →
      Comes code last (spot_at place levels (Starts (literals (name ∷ args))) fs) s
      (left_of last levels (Starts (literals (name ∷ args))) fs s)
  own_begins levels fs s name place args end none (conditional {found = found_there} is at) behind
      fits =
      sooner code last _ s
      (same_goes (ap (λ c. and_then c (onward (onward_of last levels fs)))
      (literal_words levels (codes "if" ∷ args) [] s (command levels)
      ∙ ap (λ procedure. called procedure levels (codes "if") args s) none
      ∙ ap (λ known. on_branches levels known s) is)))
      (stands code last place levels (Chooses found_there.tests found_there.otherwise) fs end s at
      behind fits)
  own_begins levels fs s name place args end none (while_loop {test = test} {body = body} at) behind
      fits =
      sooner code last _ s
      (same_goes (ap (λ c. and_then c (onward (onward_of last levels fs)))
      (literal_words levels (codes "while" ∷ args) [] s (command levels)
      ∙ ap (λ procedure. called procedure levels (codes "while") args s) none)))
      (while_begins code last levels fs s place test body end at behind fits)
  own_begins levels fs s name place args end none (for_loop {mid = mid} {start = start}
      {test = test} {step = step} {body = body} start_at drops at) behind fits =
      sooner code last _ s
      (same_goes (ap (λ c. and_then c (onward (onward_of last levels fs)))
      (literal_words levels (codes "for" ∷ args) [] s (command levels)
      ∙ ap (λ procedure. called procedure levels (codes "for") args s) none)))
      (for_begins code last levels fs s place mid start test step body end start_at drops at behind
      fits)
  own_begins levels fs s name place args end none (evaluated {text = text} at) behind fits =
      sooner code last _ s
      (same_goes (ap (λ c. and_then c (onward (onward_of last levels fs)))
      (literal_words levels (codes "eval" ∷ args) [] s (command levels)
      ∙ ap (λ procedure. called procedure levels (codes "eval") args s) none)))
      (body_begins code last place levels (concatenated (text ∷ [])) fs end s at behind fits)
  own_begins levels fs s name place args end none (valued {mid = mid} {text = text} at gives)
      behind fits =
      sooner code last _ s
      (same_goes (ap (λ c. and_then c (onward (onward_of last levels fs)))
      (literal_words levels (codes "expr" ∷ args) [] s (command levels)
      ∙ ap (λ procedure. called procedure levels (codes "expr") args s) none)))
      (stands code last place levels (Expresses (concatenated (text ∷ [])) (Resulting ∷ [])) fs end s
      (mid, at, (gives, refl)) behind fits)
  own_begins levels fs s name place args end none (caught {mid = mid} {text = text}
      {variable = variable} {more = more} words begins body_at ended takes) behind fits =
      sooner code last _ s
      (same_goes (ap (λ c. and_then c (onward (onward_of last levels fs)))
      (literal_words levels (codes "catch" ∷ args) [] s (command levels)
      ∙ ap (λ procedure. called procedure levels (codes "catch") args s) none)))
      (catch_begins code last levels fs s place mid text variable more end words begins body_at ended
      takes behind fits)
  own_begins levels fs s name place args end none (argued {text = text} {ws = ws} takes braced
      is named_at words_at) behind fits =
      let it = takes_argument levels name text s takes braced in
      sooner code last _ s
      (same_goes (ap (λ c. and_then c (onward (onward_of last levels fs)))
      (literal_words levels (name ∷ text ∷ []) [] s (command levels)
      ∙ ap (λ procedure. called procedure levels name (text ∷ []) s) none ∙ it.does)))
      (sooner code last _ s
      (reads {text = ArgumentText text} (record { words = ws; fault = None }) is here)
      (sooner code last _ s
      (same_goes (ap (λ c. and_then c (onward (onward_of last levels fs)))
      (after_name it.form levels name it.is ws [] s
      ∙ sym (literal levels name no_parts [] s
      (λ t value. words levels ws (value ∷ []) t (by_name levels))))))
      (stands code last place levels
      (Gathers true false [] (word false (bytes_then name no_parts) ws)) fs end s
      (0, refl, one (text_at name named_at first_of over) words_at) behind fits)))

  -- a procedure hides it, or none does
  unhidden_leads : (procedure : Option Procedure) (levels : ℕ) (fs : List Frame) (s : Status)
      (name : List ℕ) (place mid : ℕ) (args : List (List ℕ)) (end : ℕ) →
      found s.procedures name ≡ procedure →
      WordsAt code false false 0 (place + 1) (literals (name ∷ args)) mid → At code mid (i.Jump end) →
      OwnAt code name (mid + 1) args end → FramesAt code end fs → levels + brackets fs ≤ 255 →
      Follows code last
      (unhidden procedure (mid + 1)
      (spot_at (place + 1) levels (Starts (literals (name ∷ args))) fs) s)
      (left_of last levels (Starts (literals (name ∷ args))) fs s)
  unhidden_leads None levels fs s name place mid args end is words_at jump own_at behind fits =
      jump_leads code last (mid + 1) _ s _ (omega (arith, words_grow code words_at))
      (own_begins levels fs s name (mid + 1) args end is own_at behind fits)
  unhidden_leads (Some procedure) levels fs s name place mid args end is words_at jump own_at behind
      fits =
      stands code last (place + 1) levels (Gathers false false [] (literals (name ∷ args))) (Skip ∷ fs)
      mid s (0, refl, words_at) (end, jump, own_grows code own_at, behind) fits

  -- a command begins with its first word, or with its own code
  pub starts_leads : (levels : ℕ) (fs : List Frame) (s : Status) (place : ℕ) (ws : Words)
      (end : ℕ) → CommandAt code place ws end → FramesAt code end fs →
      levels + brackets fs ≤ 255 →
      Follows code last
      (machine (slice_get code place) (spot_at place levels (Starts ws) fs) s)
      (left_of last levels (Starts ws) fs s)
  starts_leads levels fs s place ws end (by_words words_at) behind fits =
      words_lead code last levels [] fs s false false 0 place ws end refl words_at behind fits
  starts_leads levels fs s place ws end (own {mid = mid} {name = name} {args = args} hides words_at
      jump own_at) behind fits =
      by code last (i.Unhidden name (mid + 1)) (spot_at place levels (Starts (literals (name ∷
      args))) fs) s _ hides
      (unhidden_leads (found s.procedures name) levels fs s name place mid args end refl words_at
      jump own_at behind fits)
  starts_leads levels fs s place ws end (foreach_loop {mid = mid} {variables = variables}
      {body = body} {list = list} list_at at) behind fits =
      let last_word = literals (body ∷ []) in
      silently code last _
      (same_goes (ap (λ c. and_then c (onward (onward_of last levels fs)))
      (literal levels (codes "foreach") no_parts [] s (λ t value.
      words levels (word false (bytes_then variables no_parts) (word false list last_word))
      (value ∷ []) t (command levels))
      ∙ literal levels variables no_parts [] s (λ t value.
      words levels (word false list last_word) (codes "foreach" ∷ value ∷ []) t
      (command levels)))))
      (start_leads code last levels end [] (Listed variables body) fs s place list mid list_at
      (record { stop = mid; around = refl; word_at = at }) behind fits)
  starts_leads levels fs s place ws end (switched {mid = mid} {options = options} {string = string}
      {after = after} string_at at) behind fits =
      silently code last _
      (same_goes (ap (λ c. and_then c (onward (onward_of last levels fs)))
      (text_words levels (words_before options) [] (word false string (literals after)) s
      (command levels))))
      (start_leads code last levels end [] (Switched options after) fs s place string mid string_at
      (record { stop = mid; around = refl; word_at = at }) behind fits)
  starts_leads levels fs s place ws end (direct {mid = mid} {it = it} {before = before} {last = ps} is
      parts_at at) behind fits =
      silently code last _
      (same_goes (ap (λ c. and_then c (onward (onward_of last levels fs)))
      (text_words levels before [] (word false ps no_words) s (command levels))))
      (start_leads code last levels (mid + 1) [] (Last before) fs s place ps mid parts_at
      (record { stop = mid; around = refl; word_at = (it, is, at, refl) }) behind fits)
