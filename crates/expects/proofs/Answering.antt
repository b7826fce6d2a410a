-- The courses of the parts of a turn, where it is known what was found.
use Rattle.std.proofs.Common.{◌≡◌, ◌∙◌, ℕ, ◌==◌, suc, Bool, true, false, List, [], ◌∷◌, ◌++◌, length, Option, Some, None, Result, Err, ℤ, IfSome, refl, sym, ap, subst, arith}
use Rattle.std.proofs.lemmas.Bool.Decides.{nat_tests}
use Rattle.acts.specs.Deed as said
use Rattle.state.specs.Prelude.{text_of, Id, Raise, Ends, Calls, Course, ask, gives, inside, raises, within, Outcome, Leaves, Error, TurnTree, Reaches, here, Status, lines, shut, outcome_of}
use Rattle.acts.specs.Flaw as flaw
use Rattle.acts.specs.declared.act.Timer.{Timer}
use Rattle.acts.specs.declared.raise.Raise.TheVariants as raise
use Rattle.acts.specs.declared.row.Row.{Row}
use Rattle.choices.specs.Branches.{Branches}
use Rattle.choices.specs.Lines.{Line, rows_of}
use Rattle.readings.specs.Reads.{Flaw, IsRead, Outcome as Said, place}
use Rattle.choices.specs.LogState.{goes_out, is_logged}
use Rattle.dialog.specs.Standing.{Effective, all_of, pruned}
use Rattle.choices.specs.declared.choice.Choice.{Choice}
use Rattle.choices.specs.declared.choice.Trigger.TheVariants as after
use Rattle.kinds.specs.Answers.{IsFailure}
use Rattle.state.proofs.Inside.{inside_over, text_reaches}
use Rattle.state.proofs.Reaches.{same_reaches, then_reaches}
use Rattle.state.proofs.Ticks.{tick_taken}
use Rattle.state.specs.Dialogue.{written}
use Rattle.state.specs.Piece.{ArgumentText, BranchText, ChoiceText, Script, ScriptTree}
use Rattle.state.specs.Reaches.{reads}
use Rattle.state.specs.Words.{expanded, parts, words}
use Rattle.state.specs.declared.outcome.Leave.{Leave}
use Rattle.state.specs.declared.state.State.{State}
use Rattle.tclparse.specs.Grammar.{IsArgument, IsScript}
use Rattle.tclparse.specs.Fault.{Fault}
use Rattle.tclparse.specs.Tree as tree
use Rattle.expects.proofs.Comings.{begins, over_is}
use Rattle.expects.proofs.Selecting.{selects_reaches, settled_is, settles_is}
use Rattle.expects.specs.Clock.{later}
use Rattle.expects.specs.Expect.{by_argument, by_name, by_words, first_turn, id_named, on_read, on_words, of_form, open_by, place_in, told}
use Rattle.expects.specs.Parts.{Tells}
use Rattle.expects.specs.Turn.{again, arrives, begins_again, behind, comes, consumed_by, ends, first_of, leaving, named_by, renewed, settled, taken_by, timed, times_out, waited, waits_by}
use Rattle.expects.specs.View.{Selected, notes, settles}
use Rattle.expects.specs.Words.{Form, named, stands}

-- a body that runs, or for which no level is left
module _ (script : ScriptTree) (turn : TurnTree) (levels : ℕ) (text : List ℕ) (s : Status)
    (is : IsScript script.commands script.fault text) where
  inside_runs : (inner : ℕ) (next : Status → Outcome → Course) → levels ≡ suc inner →
      inside levels script s next
      ≡ (let runs : Course = Calls (Script script inner) s next in runs)
  inside_runs inner next deeper = rw deeper refl

  pub body_runs : (inner : ℕ) → levels ≡ suc inner →
      Reaches (within levels text s (behind turn levels))
      (let runs : Course = Calls (Script script inner) s (behind turn levels) in runs)
  body_runs inner deeper =
      then_reaches (text_reaches script levels text s (behind turn levels) is)
      (same_reaches (inside_runs inner (behind turn levels) deeper))

  pub body_over : {A : Type 0} (r : Result (List ℕ) (Leave A)) → levels ≡ 0 →
      outcome_of r ≡ Leaves Error (text_of flaw.TooManyNested) →
      Reaches (within levels text s (behind turn levels))
      (let end : Course = Ends (s, outcome_of r) in end)
  body_over r zero told =
      then_reaches (text_reaches script levels text s (behind turn levels) is)
      (same_reaches (over_is r (Leaves Error (text_of flaw.TooManyNested)) s
      (inside levels script s (behind turn levels)) told
      (inside_over levels script s (behind turn levels) zero)))

-- a wait, with its rows, its turn and its levels by other names
pub waits_is : (clock : Timer) (turn next : TurnTree) (levels inner left : ℕ) (rows : List Row)
    (s : Status) → s.left ≡ suc left →
    rows ≡ rows_of (lines s) turn.effective.ids → next ≡ timed (later clock) turn →
    inner ≡ levels →
    waits_by clock turn levels s
    ≡ ask (said.Wait rows clock) (record s { left = left }) (waited next inner)
waits_is clock turn next levels inner left rows s taken told is same =
    tick_taken s left (λ t. ask (said.Wait (rows_of (lines t) turn.effective.ids) clock) t
    (waited (timed (later clock) turn) levels)) taken
    ∙ rw (told, is, same) refl

-- what came is written
module _ (i : Id) (bytes : List ℕ) (turn : TurnTree) (levels : ℕ) (s : Status) where
  pub notes_is : is_logged s.log ≡ true →
      notes i bytes turn levels s
      ≡ ask (said.Log bytes) s (written (arrives i bytes turn levels))
  notes_is is = rw is refl

pub comes_is : (i : Id) (bytes : List ℕ) (turn : TurnTree) (levels : ℕ) (s : Status) →
    (length bytes == 0) ≡ false → goes_out s.log ≡ true →
    comes i bytes turn levels s
    ≡ ask (said.Out bytes) s (written (notes i bytes turn levels))
comes_is i [] turn levels s some is = absurd (cc)
comes_is i (b ∷ bs) turn levels s some is = rw is refl

-- a choice after an end waits for its id to be closed; one after a timeout is done at once
module _ {A : Type 0} (choice : Option (Choice A)) (turn : TurnTree) (levels : ℕ) (state : State A)
    (s : Status) where
  pub ends_reaches : (i : Id)
      (made : Selected choice (after.End i) turn.effective.pairs state s) →
      Reaches (ends i turn levels s)
      (ask (said.Close i) (consumed_by (after.End i) made.selected s) (λ t reply.
      settles choice turn levels (shut i t)))
  ends_reaches i made =
      let u = consumed_by (after.End i) made.selected s in
      let taken = taken_by (after.End i) made.selected s in
      let same : (t : Status) →
      settled turn levels taken (shut i t) (gives []) made.selected
      ≡ settles choice turn levels (shut i t) =
      λ t. settled_is turn levels choice made.selected taken (shut i t) (gives []) made.same
      ∙ settles_is turn levels choice (shut i t) in
      reads {text = ChoiceText (lines s) (after.End i) turn.effective.pairs} made.selected
      made.chooses
      (same_reaches (λ k. ask (said.Close i) u (λ t reply. same t k)))

  pub times_out_reaches : (made : Selected choice after.TimedOut turn.effective.pairs state s) →
      Reaches (times_out turn levels s)
      (settles choice turn levels (consumed_by after.TimedOut made.selected s))
  times_out_reaches made =
      then_reaches (selects_reaches turn levels choice after.TimedOut state s (gives []) made)
      (same_reaches (settles_is turn levels choice (consumed_by after.TimedOut made.selected s)))

-- a turn that goes on, or is over where none of its ids is open any more
module _ (clock : Option Timer) (turn : TurnTree) (levels : ℕ) (s : Status) where
  begins_over : (is : List Id) (left : Effective) → (length is == 0) ≡ true →
      begins_again is left clock turn levels s
      ≡ raises (flaw.NotOpen (named_by (first_of turn.effective.ids))) s
  begins_over [] left none = refl
  begins_over (i ∷ is) left none =
      let no : suc (length is) ≡ 0 = grind (arith, nat_tests) in absurd (omega arith)

  begins_on : (is : List Id) (left : Effective) → (length is == 0) ≡ false →
      begins_again is left clock turn levels s
      ≡ begins (renewed clock (leaving left turn)) levels s
  begins_on [] left some = absurd (cc)
  begins_on (i ∷ is) left some = refl

  pub again_over : (left : Effective) → left ≡ pruned (lines s) turn.effective →
      (length left.ids == 0) ≡ true →
      again clock turn levels s
      ≡ raises (flaw.NotOpen (named_by (first_of turn.effective.ids))) s
  again_over left is none =
      let left_is = pruned (lines s) turn.effective in
      begins_over left_is.ids left_is (ap (λ (e : Effective). length e.ids == 0) (sym is) ∙ none)

  pub again_on : (left : Effective) → left ≡ pruned (lines s) turn.effective →
      (length left.ids == 0) ≡ false →
      again clock turn levels s ≡ begins (renewed clock (leaving left turn)) levels s
  again_on left is some =
      let left_is = pruned (lines s) turn.effective in
      begins_on left_is.ids left_is (ap (λ (e : Effective). length e.ids == 0) (sym is) ∙ some)
      ∙ ap (λ e. begins (renewed clock (leaving e turn)) levels s) (sym is)

-- the words of an argument in braces are read
pub argument_reaches : (form : Form) (levels : ℕ) (text : List ℕ) (s : Status) (ws : tree.Words)
    (f : Option Fault) → IsArgument ws f text →
    Reaches (by_argument form levels text s) (on_words form levels s ws f)
argument_reaches form levels text s ws f is =
    reads {text = ArgumentText text} (record { words = ws; fault = f }) is here

-- the words of an argument in braces say what they say after the name of their command too
pub after_name : (form : Form) (levels : ℕ) (name : List ℕ) → named name ≡ Some form →
    (ws : tree.Words) (values : List (List ℕ)) (s : Status) →
    words levels ws values s (by_words form levels)
    ≡ words levels ws (name ∷ values) s (by_name levels)
after_name form levels name is tree.no_words values s =
    ap (λ f. of_form f levels s values) (sym is)
after_name form levels name is (tree.word expands ps ws) values s =
    ap (parts levels ps [] s)
    (λ i t value. expanded expands value t
    (λ more. after_name form levels name is ws (values ++ more) t i))

-- the first turn of an expect, by its parts
pub first_is : (b : Branches) (s : Status) (e : Effective) (seconds : Option ℤ) →
    e ≡ all_of s.ids.standing b → seconds ≡ b.timeout →
    (let t : TurnTree = record {
      effective = e;
      seconds = seconds;
      trigger = after.Entry;
      clock = None;
    } in t) ≡ first_turn b s
first_is b s e seconds is same = rw (is, same) refl

-- words are read as branches, or as the error that comes first in them
pub words_reach : (form : Form) (levels : ℕ) (s : Status) (ws : List (List ℕ)) (ls : List Line)
    (current : Option Id) (standing : Bool) (said : Said) → lines s ≡ ls →
    current ≡ open_by (id_named s) s → standing ≡ stands form →
    IsRead (place ls current standing) ws said →
    Reaches (by_words form levels s ws) (on_read form levels s said)
words_reach form levels s ws ls current standing said a b c is =
    let at : place ls current standing ≡ place_in form s = λ k. place (sym a k) (b k) (c k) in
    reads {text = BranchText (place_in form s) ws} said (subst (λ p. IsRead p ws said) at is) here

pub misread_reaches : {A : Type 0} (form : Form) (levels : ℕ) (s : Status) (ws : List (List ℕ))
    (ls : List Line) (current : Option Id) (standing : Bool) (o : Option Flaw) (why : Raise A)
    (r : Result (List ℕ) (Leave A)) → lines s ≡ ls →
    current ≡ open_by (id_named s) s → standing ≡ stands form → Tells o why s →
    IfSome o (λ flaw. IsRead (place ls current standing) ws (Err flaw)) → IsFailure why r →
    Reaches (by_words form levels s ws) (let end : Course = Ends (s, outcome_of r) in end)
misread_reaches form levels s ws ls current standing o (raise.NoMemory refusal) r a b c tells is
    over = absurd over
misread_reaches form levels s ws ls current standing None (raise.Fault fault) r a b c tells is
    over = absurd tells
misread_reaches form levels s ws ls current standing (Some flaw) (raise.Fault fault) r a b c tells is
    over =
    then_reaches (words_reach form levels s ws ls current standing (Err flaw) a b c is)
    (same_reaches (over_is r (Leaves Error (text_of (told flaw s))) s (raises (told flaw s) s)
    (over ∙ ap (λ f. Leaves Error (text_of f)) tells) refl))
