-- What holds of each course that is put together from parts of which it holds.
use Rattle.std.proofs.Common.{◌≡◌, ℕ, zero, suc, List, [], Option, Some, None, Result, Ok, Err, refl}
use Rattle.acts.specs.Flaw as flaw
use Rattle.state.specs.Prelude.{text_of, Ends, Reads, Calls, Course, inside, on_value, raises, within, Outcome, Gives, Leaves, Stops, Error, Return, Break, Continue, Again, AgainRunning, ListText, LoopTree, TurnTree, ScriptTree, ScriptText, Status, Scopes}
use Rattle.plan.specs.Plan.{goes}
use Rattle.meanings.specs.Meaning.{flaw_of_list}
use Rattle.state.specs.Cut.{PassesStops}
use Rattle.state.specs.Dialogue.{tick, tick_of}
use Rattle.state.specs.Listed.{on_list, with_list}
use Rattle.state.specs.Outcome as stop
use Rattle.dialog.specs.Standing.{Standing}
use Rattle.state.specs.Piece.{Script, Loop, Turn, Text, Tree}
use Rattle.state.specs.Turn.{on_turn}
use Rattle.state.specs.Variables.{reads, writes, found, stored, spelled, flaw_of_trouble, on_name, with_name}
use Rattle.tclparse.specs.Variable.{named}
use Rattle.tclstate.specs.Scopes.{Trouble, read, written}
use Rattle.tcltext.specs.Flaw as list

-- P is a property of courses, each from a state. Courses that have ended have it; so has one that
-- begins with a script whose stops are passed on, a text that is read, a variable that is written
-- or standing pairs that are set, where all that may follow has it
pub record Closed (P : Status → Course → Type 0) : Type 0 where
  pub over : (s : Status) (o : Outcome) → P s (Ends (s, o))
  pub runs : (levels : ℕ) (tree : ScriptTree) (s : Status) (next : Status → Outcome → Course) →
      PassesStops next → ((u : Status) (o : Outcome) → P u (next u o)) → P s (Calls (Script tree levels) s next)
  pub reading : (text : Text) (s : Status) (next : Tree text → Course) →
      ((tree : Tree text) → P s (next tree)) → P s (Reads text next)
  pub writing : (scopes : Scopes) (s : Status) (course : Course) →
      P (record s { scopes = scopes }) course → P s course
  pub standing : (standing : Standing) (s : Status) (course : Course) →
      P (record s { ids = record s.ids { standing = standing } }) course → P s course

-- a course that has Q after a tick has P before it
abbrev pub Ticks : (Status → Course → Type 0) → (Status → Course → Type 0) → Type 0
Ticks P Q =
    (left : ℕ) (s : Status) (course : Course) → s.left ≡ suc left →
    Q (record s { left = left }) course → P s course

-- each loop has P
abbrev pub Loops : (Status → Course → Type 0) → Type 0
Loops P = (loop : LoopTree) (levels : ℕ) (s : Status) → P s (goes (Loop loop levels) s)

-- each turn of expect has P
abbrev pub Turns : (Status → Course → Type 0) → Type 0
Turns P = (turn : TurnTree) (levels : ℕ) (s : Status) → P s (goes (Turn turn levels) s)

module _ (P Q : Status → Course → Type 0) (over : (s : Status) (o : Outcome) → P s (Ends (s, o)))
    (ticks : Ticks P Q) where
  tick_of_closed : (left : ℕ) (s : Status) (next : Status → Course) → s.left ≡ left →
      ((u : Status) → Q u (next u)) → P s (tick_of left s next)
  tick_of_closed zero s next is each = over s (Stops stop.Limit)
  tick_of_closed (suc left) s next is each =
      ticks left s (next (record s { left = left })) is (each (record s { left = left }))

  -- a course that takes a tick has P, where what follows has Q
  pub tick_closed : (s : Status) (next : Status → Course) → ((u : Status) → Q u (next u)) →
      P s (tick s next)
  tick_closed s next each = tick_of_closed s.left s next refl each

module _ (P : Status → Course → Type 0) (over : (s : Status) (o : Outcome) → P s (Ends (s, o))) where
  -- a course that continues with a value has P, where what follows has it
  pub value_closed : (next : Status → List ℕ → Course) →
      ((u : Status) (v : List ℕ) → P u (next u v)) → (s : Status) (o : Outcome) →
      P s (on_value next s o)
  value_closed next each s (Gives value) = each s value
  value_closed next each s (Leaves code value) = over s (Leaves code value)
  value_closed next each s (Stops stop) = over s (Stops stop)

module _ (P : Status → Course → Type 0) (closed : Closed P) where
  -- a script one level deeper
  pub inside_closed : (levels : ℕ) (tree : ScriptTree) (s : Status)
      (next : Status → Outcome → Course) → PassesStops next →
      ((u : Status) (o : Outcome) → P u (next u o)) → P s (inside levels tree s next)
  inside_closed zero tree s next passes each = each s (Leaves Error (text_of flaw.TooManyNested))
  inside_closed (suc levels) tree s next passes each = closed.runs levels tree s next passes each

  pub within_closed : (levels : ℕ) (text : List ℕ) (s : Status)
      (next : Status → Outcome → Course) → PassesStops next →
      ((u : Status) (o : Outcome) → P u (next u o)) → P s (within levels text s next)
  within_closed levels text s next passes each =
      closed.reading (ScriptText text) s (λ tree. inside levels tree s next)
      (λ tree. inside_closed levels tree s next passes each)

  found_closed : (r : Result (List ℕ) Trouble) (name : List ℕ) (s : Status)
      (next : List ℕ → Course) → ((v : List ℕ) → P s (next v)) → P s (found r name s next)
  found_closed (Ok value) name s next each = each value
  found_closed (Err trouble) name s next each =
      closed.over s (Leaves Error (text_of (flaw_of_trouble trouble name)))

  -- a variable that is read
  pub reads_closed : (name : List ℕ) (index : Option (List ℕ)) (s : Status)
      (next : List ℕ → Course) → ((v : List ℕ) → P s (next v)) → P s (reads name index s next)
  reads_closed name index s next each =
      found_closed (read s.scopes name index) (spelled name index) s next each

  stored_closed : (r : Result Scopes Trouble) (name : List ℕ) (s : Status)
      (next : Status → Course) → ((u : Status) → P u (next u)) → P s (stored r name s next)
  stored_closed (Ok scopes) name s next each =
      closed.writing scopes s (next (record s { scopes = scopes }))
      (each (record s { scopes = scopes }))
  stored_closed (Err trouble) name s next each =
      closed.over s (Leaves Error (text_of (flaw_of_trouble trouble name)))

  -- a variable that is written
  pub writes_closed : (name : List ℕ) (index : Option (List ℕ)) (value : List ℕ) (s : Status)
      (next : Status → Course) → ((u : Status) → P u (next u)) →
      P s (writes name index value s next)
  writes_closed name index value s next each =
      stored_closed (written s.scopes name index value) (spelled name index) s next each

  name_closed : (n : Option (List ℕ × Option (List ℕ))) (s : Status)
      (next : List ℕ → Option (List ℕ) → Course) →
      ((name : List ℕ) (index : Option (List ℕ)) → P s (next name index)) →
      P s (on_name n s next)
  name_closed None s next each = closed.over s (Leaves Error (text_of flaw.BadVariable))
  name_closed (Some n) s next each = each n.0 n.1

  -- a word that names a variable
  pub named_closed : (word : List ℕ) (s : Status)
      (next : List ℕ → Option (List ℕ) → Course) →
      ((name : List ℕ) (index : Option (List ℕ)) → P s (next name index)) →
      P s (with_name word s next)
  named_closed word s next each = name_closed (named word) s next each

  -- an error
  pub raises_closed : (f : flaw.Flaw) (s : Status) → P s (raises f s)
  raises_closed f s = closed.over s (Leaves Error (text_of f))

  list_closed : (s : Status) (next : List (List ℕ) → Course) →
      ((es : List (List ℕ)) → P s (next es)) → (r : Result (List (List ℕ)) list.Flaw) →
      P s (on_list s next r)
  list_closed s next each (Ok elements) = each elements
  list_closed s next each (Err why) = raises_closed (flaw_of_list why) s

  -- a text that is read as a list
  pub listed_closed : (text : List ℕ) (s : Status) (next : List (List ℕ) → Course) →
      ((es : List (List ℕ)) → P s (next es)) → P s (with_list text s next)
  listed_closed text s next each =
      closed.reading (ListText text) s (on_list s next) (list_closed s next each)

  -- what follows the body of a loop
  pub turn_closed : (next : Status → Course) → ((u : Status) → P u (next u)) → (s : Status)
      (o : Outcome) → P s (on_turn next s o)
  turn_closed next each s (Gives value) = each s
  turn_closed next each s (Leaves Continue value) = each s
  turn_closed next each s (Leaves Break value) = closed.over s (Gives [])
  turn_closed next each s (Leaves Error value) = closed.over s (Leaves Error value)
  turn_closed next each s (Leaves Return value) = closed.over s (Leaves Return value)
  turn_closed next each s (Leaves Again value) = closed.over s (Leaves Again value)
  turn_closed next each s (Leaves AgainRunning value) = closed.over s (Leaves AgainRunning value)
  turn_closed next each s (Stops stop) = closed.over s (Stops stop)
