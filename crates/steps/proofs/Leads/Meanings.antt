-- Functions of texts and truth values, and jumps.
use Rattle.std.proofs.Common.{◌≡◌, ℕ, ◌+◌, ◌≤◌, List, ◌++◌, Bool, Result, Ok, Err, length, drop, take, sym, subst, if◌then◌else◌}
use Rattle.std.specs.Prelude.{reverse}
use Rattle.std.proofs.lemmas.Bool.{le-leb}
use Rattle.code.specs.declared.instruction.Instruction.{Instruction}
use Rattle.state.specs.Evaluated as evaluation
use Rattle.meanings.specs.Meaning.{Meaning, Gives, Raises, Splits, Matches, flaw_of_list}
use Rattle.operators.specs.Function as function
use Rattle.plan.specs.Plan.{and_then, onward}
use Rattle.state.specs.Listed.{on_list}
use Rattle.state.specs.Meant as meant
use Rattle.state.specs.Piece.{ListText, TestText}
use Rattle.state.specs.Prelude.{Course, Dialogue, Flaw, Outcome, Status}
use Rattle.steps.specs.Follows.{Comes, Follows}
use Rattle.steps.specs.Formulas.{calling, gives, on_meaning, on_split, on_truth}
use Rattle.steps.specs.Goes.{here, reads}
use Rattle.steps.specs.Layout.{FramesAt, OperandAt}
use Rattle.steps.specs.Moves.{jumping, with_operands}
use Rattle.steps.specs.Operand.{Outer, operand_on, waiting}
use Rattle.steps.specs.Places.{Frame, Values, beneath, brackets, handlers_beneath, marks_beneath, onward_of}
use Rattle.steps.specs.Spot.{Spot, Did, Went, Stuck}
use Rattle.steps.proofs.Leads.Operands.{words_above, lowest_below}
use Rattle.steps.proofs.Leads.Above.{waiting_above}
use Rattle.steps.proofs.Leads.Forwards.{operand_grows}
use Rattle.steps.proofs.Leads.Resumed.{Amid, amid_operands, failure_leads}
use Rattle.steps.proofs.Leads.Standing.{silently, stands}
use Rattle.tclparse.specs.declared.operator.Function.{Function}
use Rattle.tcltext.specs.Flaw as list

module _ {A X : Type 0} (code : List (Instruction A)) (last : Status → Outcome → Dialogue X) where
  -- a function of texts, as what follows its value
  split_leads : (spot : Spot) (levels : ℕ) (fs : List Frame) (s : Status) →
      Amid code last spot levels fs → (next : List (List ℕ) → Did)
      (course : List (List ℕ) → Course) →
      ((es : List (List ℕ)) → Follows code last (next es)
      (and_then (course es) (onward (onward_of last levels fs)))) →
      (split : Result (List (List ℕ)) list.Flaw) →
      Follows code last (on_split spot s next split)
      (and_then (on_list s course split) (onward (onward_of last levels fs)))
  split_leads spot levels fs s amid next course f (Ok es) = f es
  split_leads spot levels fs s amid next course f (Err why) =
      failure_leads code last (flaw_of_list why) spot levels fs s amid

  pub meaning_leads : (m : Meaning) (spot : Spot) (levels : ℕ) (fs : List Frame) (s : Status) →
      Amid code last spot levels fs → (next : List ℕ → Did) (course : List ℕ → Course) →
      ((v : List ℕ) → Follows code last (next v)
      (and_then (course v) (onward (onward_of last levels fs)))) →
      Follows code last (on_meaning m spot s next)
      (and_then (meant.on_meaning m s course) (onward (onward_of last levels fs)))
  meaning_leads (Gives v) spot levels fs s amid next course f = f v
  meaning_leads (Raises flaw) spot levels fs s amid next course f =
      failure_leads code last flaw spot levels fs s amid
  meaning_leads (Splits text more) spot levels fs s amid next course f = λ split is.
      silently code last _ (reads {text = ListText text} split is here)
      (split_leads spot levels fs s amid (λ es. on_meaning (more es) spot s next)
      (λ es. meant.on_meaning (more es) s course)
      (λ es. meaning_leads (more es) spot levels fs s amid next course f) split)
  meaning_leads (Matches pattern text more) spot levels fs s amid next course f = λ takes is.
      silently code last _ (reads {text = TestText pattern text} takes is here)
      (meaning_leads (more takes) spot levels fs s amid next course f)

  -- a truth value, or the error that there is none
  pub truth_leads : (r : Result Bool Flaw) (spot : Spot) (levels : ℕ) (fs : List Frame)
      (s : Status) → Amid code last spot levels fs → (next : Bool → Did) (course : Bool → Course) →
      ((holds : Bool) → Follows code last (next holds)
      (and_then (course holds) (onward (onward_of last levels fs)))) →
      Follows code last (on_truth r spot s next)
      (and_then (evaluation.on_truth r s course) (onward (onward_of last levels fs)))
  truth_leads (Ok holds) spot levels fs s amid next course f = f holds
  truth_leads (Err flaw) spot levels fs s amid next course f =
      failure_leads code last flaw spot levels fs s amid

  -- where an operand stands, without its value
  abbrev pub below_at : ℕ → ℕ → List Outer → List Frame → Spot
  below_at place levels outer fs = record {
    place = place;
    operands = waiting outer (beneath fs);
    marks = marks_beneath fs;
    levels = levels;
    handlers = handlers_beneath levels fs;
  }

  -- there it stands before the frames
  pub amid_below : (place levels : ℕ) (outer : List Outer) (fs : List Frame) (end : ℕ) →
      place ≤ end → FramesAt code end fs → levels + brackets fs ≤ 255 →
      Amid code last (below_at place levels outer fs) levels fs
  amid_below place levels outer fs end before behind fits =
      amid_operands code last place levels end (waiting outer (beneath fs)) fs
      (waiting_above outer (beneath fs)) before behind fits

  -- the value of a function of texts is an operand
  pub gives_leads : (m : Meaning) (place levels : ℕ) (outer : List Outer) (fs : List Frame)
      (end : ℕ) (s : Status) → OperandAt code place outer end → FramesAt code end fs →
      levels + brackets fs ≤ 255 →
      Follows code last (gives m (below_at place levels outer fs) s)
      (and_then (meant.on_meaning m s (λ v. operand_on levels outer s v))
      (onward (onward_of last levels fs)))
  gives_leads m place levels outer fs end s at behind fits =
      meaning_leads m (below_at place levels outer fs) levels fs s
      (amid_below place levels outer fs end (operand_grows code place outer end at) behind fits) _
      (λ v. operand_on levels outer s v)
      (λ v. stands code last place levels (Values v outer) fs end s at behind fits)

  -- a jump forwards
  pub jump_leads : (to : ℕ) (spot : Spot) (s : Status) (p : Dialogue X) →
      spot.place ≤ to → Comes code last (record spot { place = to }) s p →
      Follows code last (jumping to spot s) p
  jump_leads to spot s p le comes =
      subst (λ b. Follows code last (if b then Went (record spot { place = to }) s else Stuck) p)
      (sym (le-leb spot.place to le)) comes

  -- a function of the values above these operands
  pub call_leads : (f : Function) (n : ℕ) (values : List (List ℕ)) (place levels : ℕ)
      (outer : List Outer) (fs : List Frame) (end : ℕ) (s : Status) →
      n ≡ length (waiting outer (beneath fs)) → OperandAt code place outer end →
      FramesAt code end fs → levels + brackets fs ≤ 255 →
      Follows code last
      (calling f n (record {
        place = place;
        operands = values ++ waiting outer (beneath fs);
        marks = marks_beneath fs;
        levels = levels;
        handlers = handlers_beneath levels fs;
      }) s)
      (and_then (meant.on_meaning (function.call f (reverse values)) s
      (λ v. operand_on levels outer s v)) (onward (onward_of last levels fs)))
  call_leads f n values place levels outer fs end s is at behind fits =
      let below = waiting outer (beneath fs) in
      let spot = below_at place levels outer fs in
      let p = and_then (meant.on_meaning (function.call f (reverse values)) s
      (λ v. operand_on levels outer s v)) (onward (onward_of last levels fs)) in
      subst (λ m. Follows code last (gives (function.call f (drop m (reverse (values ++ below))))
      (with_operands (reverse (take m (reverse (values ++ below)))) spot) s) p) (sym is)
      (subst (λ vs. Follows code last (gives (function.call f vs)
      (with_operands (reverse (take (length below) (reverse (values ++ below)))) spot) s) p)
      (sym (words_above values below))
      (subst (λ os. Follows code last (gives (function.call f (reverse values))
      (with_operands os spot) s) p) (sym (lowest_below values below))
      (gives_leads (function.call f (reverse values)) place levels outer fs end s at behind fits)))
