-- What begins on top of the frames, up to where it may ask for acts.
use Rattle.std.specs.Prelude.{ℕ, List, drop}
use Rattle.commands.specs.Acting as acting
use Rattle.expects.specs.Expect.{by_words, expect}
use Rattle.expects.specs.Turn.{turns}
use Rattle.expects.specs.View.{form_of, turn_of}
use Rattle.kinds.specs.Exchange.{talks}
use Rattle.machine.specs.Frames.{Onward}
use Rattle.machine.specs.Phases.{Begins, Leads}
use Rattle.machine.specs.declared.frame.Frame.{Frame}
use Rattle.machine.specs.declared.starting.Asking.{Asking}
use Rattle.machine.specs.declared.starting.Asking.TheVariants as asking
use Rattle.machine.specs.declared.starting.Begun.{Begun}
use Rattle.machine.specs.declared.starting.Begun.TheVariants as begun
use Rattle.runs.specs.Ending.{Over}
use Rattle.state.specs.Budget.{again_of}
use Rattle.state.specs.Prelude.{Course, Dialogue, Status, outcome_of}
use Rattle.state.specs.declared.leaf.Leaf.TheVariants as leaf
use Rattle.state.specs.declared.state.State.{State}

-- what may ask for acts, as a course
abbrev pub course_of_asking : {A : Type 0} → Asking A → Status → Course
course_of_asking (asking.Command own words) s = talks (acting.does own (drop 1 words.items) s) s
course_of_asking (asking.Branching form words levels) s =
    expect (form_of form) levels (drop 1 words.items) s
course_of_asking (asking.Branches form words levels) s =
    by_words (form_of form) levels s (drop 1 words.items)
course_of_asking (asking.Turn turn) s = turns (turn_of turn.value) turn.value.levels s

-- for some state of the definition that the code's state fits, the dialogue continues with the
-- outcome, or as what may ask for acts, and then as the frames say
abbrev pub HasBegun : {A : Type 0} → Onward → Begun A → List (Frame A) → State A →
    Dialogue Over → Type 0
HasBegun last (begun.Has outcome) frames state p = Leads last (leaf.Has outcome) frames state p
HasBegun last (begun.Asks what) frames state p =
    Begins last (course_of_asking what) frames state p

-- how much more may begin from what may ask for acts: a command may end by exp_continue
abbrev pub asking_load : {A : Type 0} → Asking A → ℕ
asking_load (asking.Command own words) = 1
asking_load (asking.Branching form words levels) = 1
asking_load (asking.Branches form words levels) = 0
asking_load (asking.Turn turn) = 0

-- how much more may begin from what began: an outcome of exp_continue counts as one
abbrev pub begun_load : {A : Type 0} → Begun A → ℕ
begun_load (begun.Has outcome) = again_of (outcome_of outcome)
begun_load (begun.Asks what) = asking_load what
