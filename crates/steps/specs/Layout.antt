-- Where the code of what is left to be done stands.
use Rattle.std.specs.Prelude.{◌≡◌, ℕ, suc, ◌+◌, ◌<◌, ◌≤◌, List, [], ◌∷◌, Bool, true, false, Option, Some, None, Ok, Err, is_some, length, slice_get}
use Rattle.code.specs.Code.{At, IsDirect, JoinsAt, PartsAt, WordsAt, CommandAt, ScriptAt, BranchesAt, BodyAt, ExpressionAt, TurnsAt, AssignsAt, ForeachAt, DealAt, SwitchAt, RestAt, FormulaAt, LinksAt, ArgumentsAt, TakenAt}
use Rattle.code.specs.Doing.{DoneAt}
use Rattle.code.specs.declared.instruction.Instruction.{Instruction}
use Rattle.code.specs.declared.instruction.Instruction.TheVariants as i
use Rattle.code.specs.Branches.{Branch}
use Rattle.state.specs.Piece.{FormulaText}
use Rattle.state.specs.Prelude.{IsTree, LoopTree, ScriptText, ScriptTree}
use Rattle.steps.specs.Each.{Each}
use Rattle.steps.specs.Operand.{Outer, Prefixed, Row, Right, Holds, Argument, Test, Chosen, Condition, Turning, Resulting}
use Rattle.steps.specs.Places.{Head, Has, Part, Joins, Gathers, Evaluates, Expresses, Lacks, Values, Starts, Chooses, Enters, Repeats, Finishes, Deals, Takes, Sets, Drops, Compares, Runs, Frame, Rest, Bracket, Body, Skip, Alone, Command, For, Turns, Elements, Tries, Stores, Catches}
use Rattle.steps.specs.Word.{Around, Open, Word, Plain, Expands, Operand, Listed, Switched, Last}
use Rattle.tclparse.specs.Formula.{Formula}

module _ {A : Type 0} (code : List (Instruction A)) where
  -- words that are not counted: their number stands in the instruction that begins the command
  abbrev pub CountIs : Bool → ℕ → ℕ → Type 0
  CountIs false count n = count ≡ n
  CountIs true count n = Unit {0}

  -- after the value of an index come the elements and the words around it
  abbrev pub AroundAt : ℕ → List Around → ℕ → Type 0
  AroundAt place [] end = place ≡ end
  AroundAt place (o ∷ os) end =
      At code place (i.Element o.array) ×
      ((mid : ℕ) × (stop : ℕ) × JoinsAt code (is_some o.so_far) (place + 1) mid ×
      PartsAt code true mid o.parts stop × AroundAt stop os end)

  -- the code of a script that is a body, one level deeper
  pub record DeeperAt (place : ℕ) (tree : ScriptTree) (end : ℕ) : Type 0 where
    pub after : ℕ
    pub enters : At code place (i.Body after)
    pub stop : ℕ
    pub script : ScriptAt code (place + 1) tree.commands tree.fault stop
    pub leaves : At code stop i.Leave
    pub ends : end ≡ stop + 1

  -- a script that is a body, one level deeper: its code, or its text
  pub data EntersAt : ℕ → ScriptTree → ℕ → Type 0 where
    body_code : {place end : ℕ} {tree : ScriptTree} → DeeperAt place tree end →
        EntersAt place tree end
    body_text : {place after : ℕ} {tree : ScriptTree} {text : List ℕ} →
        At code place (i.Run text after) → IsTree (ScriptText text) tree →
        EntersAt place tree (place + 1)

  -- a formula whose value is put on top: its code, or its text
  pub data EvaluatesAt : ℕ → Formula → ℕ → Type 0 where
    formula_code : {place end : ℕ} {f : Formula} → FormulaAt code place f end →
        EvaluatesAt place f end
    formula_text : {place : ℕ} {f : Formula} {text : List ℕ} → At code place (i.Evaluate text) →
        IsTree (FormulaText text) (Ok f) → EvaluatesAt place f (place + 1)

  -- after the body of a turn: the script that runs after it, if there is one, and then the end of
  -- the turn
  abbrev pub StepsAt : ℕ → Option ScriptTree → ℕ → Type 0
  StepsAt place None end = At code place i.EndTurn × (end ≡ place + 1)
  StepsAt place (Some step) end =
      (over : ℕ) × At code place i.Step × EntersAt (place + 1) step over ×
      At code over i.EndTurn × (end ≡ over + 1)

  -- a loop: the body of a turn, what stands after it, the test, what begins a turn at this place,
  -- and after this the empty value
  pub record LoopAt (loop : LoopTree) (turn : ℕ) : Type 0 where
    pub body : ℕ
    pub ends : ℕ
    pub test : ℕ
    pub enters : EntersAt body loop.body ends
    pub steps : StepsAt ends loop.step test
    pub formula : EvaluatesAt test loop.test turn
    pub turns : At code turn (i.Turn body ends)
    pub over : At code (turn + 1) (i.Text [])

  -- the body of a turn is over here, where it ends, or else the script after it is
  abbrev pub PartAt : ℕ → (loop : LoopTree) → (turn : ℕ) → LoopAt loop turn → Option ℕ → Type 0
  PartAt place loop turn at (Some end) = (end ≡ place) × (at.ends ≡ place)
  PartAt place loop turn at None = At code place i.EndTurn × (at.test ≡ place + 1)

  -- the second place, or a jump to it
  pub data LeadsTo : ℕ → ℕ → Type 0 where
    there : {place : ℕ} → LeadsTo place place
    jumps : {place to : ℕ} → At code place (i.Jump to) → place + 1 ≤ to → LeadsTo place to

  -- a loop that goes on with its test
  abbrev pub RepeatsAt : ℕ → LoopTree → ℕ → Type 0
  RepeatsAt place loop end =
      (turn : ℕ) × (at : LoopAt loop turn) × LeadsTo place at.test × (end ≡ turn + 2)

  -- a foreach: its body, the end of a turn at this place, what begins the next turn, of which the
  -- last instruction stands at that place, and the end of the loop
  pub record EachAt (each : Each) (ends turn : ℕ) : Type 0 where
    pub some : 0 < length each.names
    pub body : ℕ
    pub enters : EntersAt body each.body ends
    pub ended : At code ends i.EndTurn
    pub more : At code (ends + 1) (i.More (turn + 1))
    pub assigns : AssignsAt code (ends + 1 + 1) each.names turn
    pub begins : At code turn (i.Begin body ends)
    pub done : At code (turn + 1) i.Done

  -- after the value of a test: its body, and what is left after it
  abbrev pub ConditionAt : ℕ → List ℕ → List Branch → Option (List ℕ) → ℕ → Type 0
  ConditionAt place body more otherwise end =
      (jump : ℕ) × At code place (i.Unless (jump + 1)) × BodyAt code (place + 1) body jump ×
      At code jump (i.Jump end) × (jump + 1 ≤ end) × BranchesAt code (jump + 1) more otherwise end

  -- after the value of an operand comes what it is evaluated for
  abbrev pub OperandAt : ℕ → List Outer → ℕ → Type 0
  OperandAt place [] end = place ≡ end
  OperandAt place (Prefixed operator ∷ outer) end =
      At code place (i.Prefix operator) × OperandAt (place + 1) outer end
  OperandAt place (Row links ∷ outer) end =
      (mid : ℕ) × LinksAt code place links mid × OperandAt mid outer end
  OperandAt place (Right operator left links ∷ outer) end =
      At code place (i.Binary operator) ×
      ((mid : ℕ) × LinksAt code (place + 1) links mid × OperandAt mid outer end)
  OperandAt place (Holds links ∷ outer) end =
      At code place i.Truth ×
      ((mid : ℕ) × LinksAt code (place + 1) links mid × OperandAt mid outer end)
  OperandAt place (Argument function before rest ∷ outer) end =
      (count : ℕ) × (mid : ℕ) × ArgumentsAt code place rest count mid ×
      At code mid (i.Call function (count + suc (length before))) × OperandAt (mid + 1) outer end
  OperandAt place (Test one other ∷ outer) end =
      (jump : ℕ) × (mid : ℕ) × At code place (i.Unless (jump + 1)) ×
      FormulaAt code (place + 1) one jump × At code jump (i.Jump mid) ×
      FormulaAt code (jump + 1) other mid × OperandAt mid outer end
  OperandAt place (Chosen ∷ outer) end =
      (mid : ℕ) × At code place (i.Jump mid) × (place + 1 ≤ mid) × OperandAt mid outer end
  OperandAt place (Condition body more otherwise ∷ outer) end =
      ConditionAt place body more otherwise end
  OperandAt place (Turning loop ∷ outer) end =
      LoopAt loop place × (end ≡ place + 2)
  OperandAt place (Resulting ∷ outer) end = At code place i.Result × (end ≡ place + 1)

  -- after the value of a word come the words after it
  abbrev pub WordAt : ℕ → Word → ℕ → Type 0
  WordAt place (Plain braced counted before rest) end =
      (count : ℕ) × CountIs counted count (suc (length before)) ×
      WordsAt code braced counted count place rest end
  WordAt place (Expands braced before rest) end =
      At code place i.Spread ×
      ((count : ℕ) × WordsAt code braced true count (place + 1) rest end)
  WordAt place (Operand outer) end = OperandAt place outer end
  WordAt place (Listed variables body) end = ForeachAt code place variables body end
  WordAt place (Switched options after) end = SwitchAt code place options after end
  WordAt place (Last before) end =
      (it : Instruction A) × IsDirect it before × At code place it × (end ≡ place + 1)

  -- what is around the parts that are left of an open word
  pub record OuterAt (place : ℕ) (outer : List Around) (word : Word) (end : ℕ) : Type 0 where
    pub stop : ℕ
    pub around : AroundAt place outer stop
    pub word_at : WordAt stop word end

  -- an open word, before its next part
  pub record OpenAt (place : ℕ) (o : Open) (end : ℕ) : Type 0 where
    pub stop : ℕ
    pub parts_at : PartsAt code (is_some o.so_far) place o.parts stop
    pub outer_at : OuterAt stop o.outer o.word end

  -- an open word, with a value on top that is put after its bytes
  pub record JoinedAt (place : ℕ) (o : Open) (end : ℕ) : Type 0 where
    pub mid : ℕ
    pub joins : JoinsAt code (is_some o.so_far) place mid
    pub stop : ℕ
    pub parts_at : PartsAt code true mid o.parts stop
    pub outer_at : OuterAt stop o.outer o.word end

  -- the code does this, up to the second place
  abbrev pub HeadAt : ℕ → Head → ℕ → Type 0
  HeadAt place (Has value) end = place ≡ end
  HeadAt place (Part word) end = OpenAt place word end
  HeadAt place (Joins value word) end = JoinedAt place word end
  HeadAt place (Gathers braced counted before rest) end =
      (count : ℕ) × CountIs counted count (length before) ×
      WordsAt code braced counted count place rest end
  HeadAt place (Evaluates f outer) end =
      (mid : ℕ) × EvaluatesAt place f mid × OperandAt mid outer end
  HeadAt place (Expresses text outer) end =
      (mid : ℕ) × ExpressionAt code place text mid × OperandAt mid outer end
  HeadAt place (Lacks text why) end =
      At code place (i.Evaluate text) × IsTree (FormulaText text) (Err why) × (end ≡ place + 1)
  HeadAt place (Values value outer) end = OperandAt place outer end
  HeadAt place (Starts ws) end = CommandAt code place ws end
  HeadAt place (Chooses more otherwise) end = BranchesAt code place more otherwise end
  HeadAt place (Enters tree) end = EntersAt place tree end
  HeadAt place (Repeats loop) end = RepeatsAt place loop end
  HeadAt place Finishes end = At code place (i.Text []) × (end ≡ place + 1)
  HeadAt place (Deals list names body) end = (0 < length names) × DealAt code place names body end
  HeadAt place (Takes each elements) end =
      (ends : ℕ) × (turn : ℕ) × EachAt each ends turn × (place ≡ ends + 1) × (end ≡ turn + 2)
  HeadAt place (Sets names each elements) end =
      (ends : ℕ) × (turn : ℕ) × EachAt each ends turn × AssignsAt code place names turn ×
      (end ≡ turn + 2)
  HeadAt place (Drops elements) end = At code place i.Done × (end ≡ place + 1)
  HeadAt place (Compares globs text arms) end = RestAt code globs place arms end
  HeadAt place (Runs text body) end = At code place i.Discard × BodyAt code (place + 1) body end
  HeadAt place (Tries tree variable) end =
      (ends : ℕ) × At code place (i.Catch (ends + 1)) × EntersAt (place + 1) tree ends ×
      At code ends i.EndCatch × TakenAt code (ends + 1) variable end
  HeadAt place (Stores variable number value) end = TakenAt code place variable end

  -- from here on the code does what the frames do with the value on top
  abbrev pub FramesAt : ℕ → List Frame → Type 0
  FramesAt place [] = slice_get code place ≡ None
  FramesAt place (Rest cs f ∷ frames) =
      (end : ℕ) × ScriptAt code place cs f end × FramesAt end frames
  FramesAt place (Bracket word ∷ frames) =
      At code place i.Leave ×
      ((end : ℕ) × JoinedAt (place + 1) word end × FramesAt end frames)
  FramesAt place (Body ∷ frames) = At code place i.Leave × FramesAt (place + 1) frames
  FramesAt place (Skip ∷ frames) =
      (end : ℕ) × At code place (i.Jump end) × (place + 1 ≤ end) × FramesAt end frames
  FramesAt place (Alone f ∷ frames) =
      At code place i.Discard ×
      ((end : ℕ) × FormulaAt code (place + 1) f end × FramesAt end frames)
  FramesAt place (Command doing ∷ frames) =
      At code place i.Discard ×
      ((end : ℕ) × DoneAt code doing (place + 1) end × FramesAt end frames)
  FramesAt place (For test step body ∷ frames) =
      At code place i.Discard ×
      ((end : ℕ) × TurnsAt code (place + 1) test (Some step) body end × FramesAt end frames)
  FramesAt place (Turns loop ends turn ∷ frames) =
      (at : LoopAt loop turn) × PartAt place loop turn at ends × FramesAt (turn + 2) frames
  FramesAt place (Elements each elements ends turn ∷ frames) =
      EachAt each ends turn × (place ≡ ends) × FramesAt (turn + 2) frames
  FramesAt place (Catches variable ends ∷ frames) =
      (end : ℕ) × At code place i.EndCatch × (place ≡ ends) ×
      TakenAt code (ends + 1) variable end × FramesAt end frames
