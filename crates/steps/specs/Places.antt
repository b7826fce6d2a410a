-- What is left to be done at a place of the code, as the proof sees it.
use Rattle.std.specs.Prelude.{ℕ, suc, ◌+◌, List, [], ◌∷◌, ◌++◌, Bool, true, false, Option, Some, None, decimal, length, reverse}
use Rattle.nesting.specs.Catch.{caught, stores_in}
use Rattle.code.specs.Branches.{Branch}
use Rattle.code.specs.Doing.{Doing}
use Rattle.nesting.specs.Conditional.{chooses, passes}
use Rattle.nesting.specs.Doing.{done}
use Rattle.nesting.specs.ForLoop.{started}
use Rattle.nesting.specs.Formulas.{flaw_of_formula, with_formula}
use Rattle.nesting.specs.Loop.{again, behind_body, on_step}
use Rattle.state.specs.Evaluated.{evaluated}
use Rattle.plan.specs.Plan.{and_then, onward, after}
use Rattle.runs.specs.Commands.{command}
use Rattle.runs.specs.Scripts.{script}
use Rattle.state.specs.Prelude.{Course, Dialogue, gives, inside, LoopTree, on_value, Outcome, raises, ScriptTree, Status, within}
use Rattle.state.specs.Turn.{on_turn}
use Rattle.steps.specs.Each.{Each, listed, turn_left, turns_left}
use Rattle.steps.specs.Operand.{Outer, operand_on, waiting}
use Rattle.steps.specs.Spot.{Handler, Spot}
use Rattle.steps.specs.Tries.{tries}
use Rattle.steps.specs.declared.handler.Covered.{Covered}
use Rattle.steps.specs.declared.handler.Covered.TheVariants as covers
use Rattle.steps.specs.Word.{Open, bytes_of, call_of, course_with, is_counted, operands_of}
use Rattle.tclparse.specs.Fault.{Fault}
use Rattle.tclparse.specs.Formula.{Formula}
use Rattle.tclparse.specs.FormulaFault.{FormulaFault}
use Rattle.tclparse.specs.Tree.{Commands, Words}
use Rattle.state.specs.Words.{words}

-- what is being done at a place: a value is on top; an open word goes on with its next part; a
-- value is put after the bytes of an open word; a command, or an argument in braces, goes on with
-- its next word, after these words, the last one first, which are counted or not; a formula is
-- evaluated; a text is read as a formula, which is evaluated then; a text is evaluated that is no
-- formula, for this reason; the value of an operand is on top; a command begins with its first word, or with its own code; the branches of if
-- that are left are looked through; a body begins; a loop goes on with its next turn; a loop is
-- over; the list of a foreach is on top; a foreach goes on with its next turn; the variables of a
-- turn that are left are set; a foreach is over; the patterns of a switch that are left, globs or
-- not, are held against its string, which is on top; the body that was chosen by the string runs,
-- once that is dropped
-- a catch begins its script; a catch has this
-- number, and its variable takes this value
pub data Head : Type 0 where
  Has : (value : List ℕ) → Head
  Part : (word : Open) → Head
  Joins : (value : List ℕ) (word : Open) → Head
  Gathers : (braced counted : Bool) (before : List (List ℕ)) (rest : Words) → Head
  Evaluates : (formula : Formula) (outer : List Outer) → Head
  Expresses : (text : List ℕ) (outer : List Outer) → Head
  Lacks : (text : List ℕ) (why : FormulaFault) → Head
  Values : (value : List ℕ) (outer : List Outer) → Head
  Starts : (words : Words) → Head
  Chooses : (more : List Branch) (otherwise : Option (List ℕ)) → Head
  Enters : (tree : ScriptTree) → Head
  Repeats : (loop : LoopTree) → Head
  Finishes : Head
  Deals : (list : List ℕ) (names : List (List ℕ)) (body : List ℕ) → Head
  Takes : (each : Each) (elements : List (List ℕ)) → Head
  Sets : (names : List (List ℕ)) (each : Each) (elements : List (List ℕ)) → Head
  Drops : (elements : List (List ℕ)) → Head
  Compares : (globs : Bool) (text : List ℕ) (arms : List (List ℕ)) → Head
  Runs : (text body : List ℕ) → Head
  Tries : (tree : ScriptTree) (variable : Option (List ℕ)) → Head
  Stores : (variable : Option (List ℕ)) (number : ℕ) (value : List ℕ) → Head

-- what is done with a value once it is on top: the commands of a script that are left follow; or a
-- script in brackets is over, and its value is put after the bytes of an open word; or a body is
-- over, and its outcome is passed on; or the code goes on elsewhere; or the value is dropped, and a
-- formula is evaluated, whose value is then on top; or the value is dropped, and this is done, whose
-- value is then on top; or the start of for is over,
-- and turns with this test, this script after each turn and this body follow; or the body of a turn
-- is over, at the place where it ends, or else, without a place, the script after it is, and then
-- the loop goes on, whose next turn begins at the other place; or the body of a turn of foreach is
-- over, at the place where it ends, and it goes on with these elements, and begins its next turn at
-- the other place; or the script of a catch is over, at the place where it ends, and this variable
-- takes its value, if there is one (Tcl(n), rules 1 and 7; if(n); while(n); for(n); foreach(n);
-- catch(n))
pub data Frame : Type 0 where
  Rest : (commands : Commands) (fault : Option Fault) → Frame
  Bracket : (word : Open) → Frame
  Body : Frame
  Skip : Frame
  Alone : (formula : Formula) → Frame
  Command : (doing : Doing) → Frame
  For : (test step body : List ℕ) → Frame
  Turns : (loop : LoopTree) (ends : Option ℕ) (turn : ℕ) → Frame
  Elements : (each : Each) (elements : List (List ℕ)) (ends turn : ℕ) → Frame
  Catches : (variable : Option (List ℕ)) (ends : ℕ) → Frame

-- what is being done, as a course
abbrev pub course_of : ℕ → Head → Status → Course
course_of levels (Has value) s = gives value s
course_of levels (Part word) s = course_with levels word (bytes_of word.so_far) s
course_of levels (Joins value word) s = course_with levels word (bytes_of word.so_far ++ value) s
course_of levels (Gathers braced counted before rest) s =
    words levels rest (reverse before) s (call_of braced levels)
course_of levels (Evaluates f outer) s = evaluated levels f s (operand_on levels outer)
course_of levels (Expresses text outer) s =
    with_formula text s (λ f. evaluated levels f s (operand_on levels outer))
course_of levels (Lacks text why) s = raises (flaw_of_formula why) s
course_of levels (Values value outer) s = operand_on levels outer s value
course_of levels (Starts ws) s = words levels ws [] s (command levels)
course_of levels (Chooses more otherwise) s = chooses levels more otherwise s
course_of levels (Enters tree) s = inside levels tree s passes
course_of levels (Repeats loop) s = again loop levels s
course_of levels Finishes s = gives [] s
course_of levels (Deals list names body) s = listed levels list names body s
course_of levels (Takes each elements) s = turns_left levels each elements s
course_of levels (Sets names each elements) s = turn_left levels names each elements s
course_of levels (Drops elements) s = gives [] s
course_of levels (Compares globs text arms) s = tries levels globs text arms s
course_of levels (Runs text body) s = within levels body s passes
course_of levels (Tries tree variable) s = inside levels tree s (caught variable)
course_of levels (Stores variable number value) s = stores_in variable number value s

-- what follows the body of a turn, or else the script after it (while(n), for(n))
abbrev pub behind_part : LoopTree → ℕ → Option ℕ → Status → Outcome → Course
behind_part loop levels (Some end) = behind_body loop levels
behind_part loop levels None = on_step (again loop levels)

-- what is done next, the top frame first; what is around a script in brackets, or around a body,
-- stands one level up
abbrev pub nexts : ℕ → List Frame → List (Status → Outcome → Course)
nexts levels [] = []
nexts levels (Rest cs f ∷ frames) =
    on_value (script levels cs f) ∷ nexts levels frames
nexts levels (Bracket word ∷ frames) =
    on_value (λ s value. course_of (suc levels) (Joins value word) s) ∷ nexts (suc levels) frames
nexts levels (Body ∷ frames) = passes ∷ nexts (suc levels) frames
nexts levels (Skip ∷ frames) = nexts levels frames
nexts levels (Alone f ∷ frames) =
    on_value (λ s value. course_of levels (Evaluates f []) s) ∷ nexts levels frames
nexts levels (Command doing ∷ frames) =
    on_value (λ s value. done doing levels s) ∷ nexts levels frames
nexts levels (For test step body ∷ frames) =
    on_value (started levels test step body) ∷ nexts levels frames
nexts levels (Turns loop ends turn ∷ frames) = behind_part loop levels ends ∷ nexts levels frames
nexts levels (Elements each elements ends turn ∷ frames) =
    on_turn (turns_left levels each elements) ∷ nexts levels frames
nexts levels (Catches variable ends ∷ frames) = caught variable ∷ nexts levels frames

-- what is done with an outcome: the frames from the top down, and then what is done last
abbrev pub onward_of : {X : Type 0} → (Status → Outcome → Dialogue X) → ℕ → List Frame →
    Status → Outcome → Dialogue X
onward_of last levels frames = after (nexts levels frames) last

-- what is left to be done
abbrev pub left_of : {X : Type 0} → (Status → Outcome → Dialogue X) → ℕ → Head → List Frame →
    Status → Dialogue X
left_of last levels head frames s =
    and_then (course_of levels head s) (onward (onward_of last levels frames))

-- the operands that the frames have, the top one first
abbrev pub beneath : List Frame → List (List ℕ)
beneath [] = []
beneath (Rest cs f ∷ frames) = beneath frames
beneath (Bracket word ∷ frames) = operands_of word (beneath frames)
beneath (Body ∷ frames) = beneath frames
beneath (Skip ∷ frames) = beneath frames
beneath (Alone f ∷ frames) = beneath frames
beneath (Command doing ∷ frames) = beneath frames
beneath (For test step body ∷ frames) = beneath frames
beneath (Turns loop ends turn ∷ frames) = beneath frames
beneath (Elements each elements ends turn ∷ frames) = elements ++ beneath frames
beneath (Catches variable ends ∷ frames) = beneath frames

-- where words are counted, one more mark
abbrev pub marked : Bool → ℕ → List ℕ → List ℕ
marked false below marks = marks
marked true below marks = below ∷ marks

-- the marks that the frames have
abbrev pub marks_beneath : List Frame → List ℕ
marks_beneath [] = []
marks_beneath (Rest cs f ∷ frames) = marks_beneath frames
marks_beneath (Bracket word ∷ frames) =
    marked (is_counted word.word) (length (beneath frames)) (marks_beneath frames)
marks_beneath (Body ∷ frames) = marks_beneath frames
marks_beneath (Skip ∷ frames) = marks_beneath frames
marks_beneath (Alone f ∷ frames) = marks_beneath frames
marks_beneath (Command doing ∷ frames) = marks_beneath frames
marks_beneath (For test step body ∷ frames) = marks_beneath frames
marks_beneath (Turns loop ends turn ∷ frames) = marks_beneath frames
marks_beneath (Elements each elements ends turn ∷ frames) =
    length (beneath frames) ∷ marks_beneath frames
marks_beneath (Catches variable ends ∷ frames) = marks_beneath frames

-- a part of a turn: its body, which ends at this place, or else the script after it (for(n))
abbrev pub part_of : Option ℕ → Covered
part_of (Some end) = covers.Body end
part_of None = covers.Step

-- the handlers that the frames have: one for each turn and for each catch that is open
abbrev pub handlers_beneath : ℕ → List Frame → List Handler
handlers_beneath levels [] = []
handlers_beneath levels (Rest cs f ∷ frames) = handlers_beneath levels frames
handlers_beneath levels (Bracket word ∷ frames) = handlers_beneath (suc levels) frames
handlers_beneath levels (Body ∷ frames) = handlers_beneath (suc levels) frames
handlers_beneath levels (Skip ∷ frames) = handlers_beneath levels frames
handlers_beneath levels (Alone f ∷ frames) = handlers_beneath levels frames
handlers_beneath levels (Command doing ∷ frames) = handlers_beneath levels frames
handlers_beneath levels (For test step body ∷ frames) = handlers_beneath levels frames
handlers_beneath levels (Turns loop ends turn ∷ frames) =
    record {
      covers = part_of ends;
      over = turn + 1;
      operands = length (beneath frames);
      marks = length (marks_beneath frames);
      levels = levels;
    } ∷ handlers_beneath levels frames
handlers_beneath levels (Elements each elements ends turn ∷ frames) =
    record {
      covers = covers.Body ends;
      over = turn + 1;
      operands = length (elements ++ beneath frames);
      marks = length (length (beneath frames) ∷ marks_beneath frames);
      levels = levels;
    } ∷ handlers_beneath levels frames
handlers_beneath levels (Catches variable ends ∷ frames) =
    record {
      covers = covers.Catch;
      over = ends + 1;
      operands = length (beneath frames);
      marks = length (marks_beneath frames);
      levels = levels;
    } ∷ handlers_beneath levels frames

-- all operands
abbrev pub operands_at : Head → List Frame → List (List ℕ)
operands_at (Has value) frames = value ∷ beneath frames
operands_at (Part word) frames = operands_of word (beneath frames)
operands_at (Joins value word) frames = value ∷ operands_of word (beneath frames)
operands_at (Gathers braced counted before rest) frames = before ++ beneath frames
operands_at (Evaluates f outer) frames = waiting outer (beneath frames)
operands_at (Expresses text outer) frames = waiting outer (beneath frames)
operands_at (Lacks text why) frames = beneath frames
operands_at (Values value outer) frames = value ∷ waiting outer (beneath frames)
operands_at (Starts ws) frames = beneath frames
operands_at (Chooses more otherwise) frames = beneath frames
operands_at (Enters tree) frames = beneath frames
operands_at (Repeats loop) frames = beneath frames
operands_at Finishes frames = beneath frames
operands_at (Deals list names body) frames = list ∷ beneath frames
operands_at (Takes each elements) frames = elements ++ beneath frames
operands_at (Sets names each elements) frames = elements ++ beneath frames
operands_at (Drops elements) frames = elements ++ beneath frames
operands_at (Compares globs text arms) frames = text ∷ beneath frames
operands_at (Runs text body) frames = text ∷ beneath frames
operands_at (Tries tree variable) frames = beneath frames
operands_at (Stores variable number value) frames = value ∷ decimal number ∷ beneath frames

-- all marks
abbrev pub marks_at : Head → List Frame → List ℕ
marks_at (Has value) frames = marks_beneath frames
marks_at (Part word) frames = marks_beneath (Bracket word ∷ frames)
marks_at (Joins value word) frames = marks_beneath (Bracket word ∷ frames)
marks_at (Gathers braced counted before rest) frames =
    marked counted (length (beneath frames)) (marks_beneath frames)
marks_at (Evaluates f outer) frames = marks_beneath frames
marks_at (Expresses text outer) frames = marks_beneath frames
marks_at (Lacks text why) frames = marks_beneath frames
marks_at (Values value outer) frames = marks_beneath frames
marks_at (Starts ws) frames = marks_beneath frames
marks_at (Chooses more otherwise) frames = marks_beneath frames
marks_at (Enters tree) frames = marks_beneath frames
marks_at (Repeats loop) frames = marks_beneath frames
marks_at Finishes frames = marks_beneath frames
marks_at (Deals list names body) frames = marks_beneath frames
marks_at (Takes each elements) frames = length (beneath frames) ∷ marks_beneath frames
marks_at (Sets names each elements) frames = length (beneath frames) ∷ marks_beneath frames
marks_at (Drops elements) frames = length (beneath frames) ∷ marks_beneath frames
marks_at (Compares globs text arms) frames = marks_beneath frames
marks_at (Runs text body) frames = marks_beneath frames
marks_at (Tries tree variable) frames = marks_beneath frames
marks_at (Stores variable number value) frames = marks_beneath frames

-- where the run of the code stands
abbrev pub spot_at : ℕ → ℕ → Head → List Frame → Spot
spot_at place levels head frames = record {
  place = place;
  operands = operands_at head frames;
  marks = marks_at head frames;
  levels = levels;
  handlers = handlers_beneath levels frames;
}

-- how many scripts in brackets and bodies are open
abbrev pub brackets : List Frame → ℕ
brackets [] = 0
brackets (Rest cs f ∷ frames) = brackets frames
brackets (Bracket word ∷ frames) = suc (brackets frames)
brackets (Body ∷ frames) = suc (brackets frames)
brackets (Skip ∷ frames) = brackets frames
brackets (Alone f ∷ frames) = brackets frames
brackets (Command doing ∷ frames) = brackets frames
brackets (For test step body ∷ frames) = brackets frames
brackets (Turns loop ends turn ∷ frames) = brackets frames
brackets (Elements each elements ends turn ∷ frames) = brackets frames
brackets (Catches variable ends ∷ frames) = brackets frames
