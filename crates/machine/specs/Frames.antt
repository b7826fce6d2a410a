-- What is done next: the frames of a session.
use Rattle.std.specs.Prelude.{ℕ, ◌+◌, ◌*◌, List, [], ◌∷◌, map, reverse}
use Rattle.state.specs.Prelude.{Course, Dialogue, on_value, Outcome, Status}
use Rattle.std.specs.declared.vec.Vec.{Vec}
use Rattle.code.specs.Doing.{doing_of, size_of}
use Rattle.code.specs.declared.made.Entry.{Entry}
use Rattle.code.specs.declared.made.Entry.TheVariants as entry
use Rattle.nesting.specs.View as control
use Rattle.machine.specs.declared.frame.Frame.{Frame}
use Rattle.machine.specs.declared.frame.Frame.TheVariants as frame
use Rattle.expects.specs.Turn.{behind}
use Rattle.expects.specs.View.{turn_of}
use Rattle.plan.specs.Plan.{and_then, onward, after}
use Rattle.runs.specs.Ending.{Over}
use Rattle.state.specs.declared.state.State.{State}
use Rattle.steps.specs.Entered.{entered}
use Rattle.steps.specs.Run.{branches_in}

-- the frames, the top one first
abbrev pub stack : {A : Type 0} → Vec (Frame A) A → List (Frame A)
stack frames = reverse frames.items

-- a frame is what is done next with the outcome of the part within it: a code of which nothing is
-- done yet, a command after what it ran, or a turn of expect after the body of what it chose
abbrev pub next_of : {A : Type 0} → Frame A → Status → Outcome → Course
next_of (frame.Code it levels) = on_value (entered it levels)
next_of (frame.Held held) = control.next_of held
next_of (frame.Turn turn) = behind (turn_of turn.value) turn.value.levels

-- what is done with an outcome
abbrev pub Onward : Type 0
Onward = Status → Outcome → Dialogue Over

-- what is done with an outcome: the frames from the top down, and then what is done last
abbrev pub onward_of : {A : Type 0} → Onward → List (Frame A) → Onward
onward_of last frames = after (map next_of frames) last

-- a course, and then what is done with its outcome
abbrev pub left_of : {A : Type 0} → Onward → Course → List (Frame A) → Dialogue Over
left_of last course frames = and_then course (onward (onward_of last frames))

-- how often a code may put what a text is read as on the stack before the next tick, and once more:
-- that of what a command does begins no command, and texts stand in it
abbrev pub weight_in : {A : Type 0} → Entry A → ℕ
weight_in (entry.Made it) = 1
weight_in (entry.Argument words) = 1
weight_in (entry.Does doing) = 1 + 2 * size_of (doing_of doing)

-- how much a frame may still put on the stack between two ticks
abbrev pub weight_of : {A : Type 0} → Frame A → ℕ
weight_of (frame.Code it levels) = weight_in it
weight_of (frame.Held held) = 1
weight_of (frame.Turn turn) = 1

-- how much all frames together may still put on the stack between two ticks
abbrev pub weight : {A : Type 0} → List (Frame A) → ℕ
weight [] = 0
weight (f ∷ fs) = weight_of f + weight fs

-- how much may begin from a frame before the next tick: a code may give branches, and what a
-- command holds may end by exp_continue
abbrev pub words_of_frame : {A : Type 0} → Frame A → ℕ
words_of_frame (frame.Code it levels) = branches_in it
words_of_frame (frame.Held held) = 1
words_of_frame (frame.Turn turn) = 0

-- how much may begin from all frames before the next tick
abbrev pub words_in : {A : Type 0} → List (Frame A) → ℕ
words_in [] = 0
words_in (f ∷ fs) = words_of_frame f + words_in fs

-- how much more may begin: each tick that is left counts as one
abbrev pub load : {A : Type 0} → List (Frame A) → State A → ℕ
load frames state = state.left + words_in frames
