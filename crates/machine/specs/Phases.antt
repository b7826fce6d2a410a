-- Where a session stands.
use Rattle.std.specs.Prelude.{◌≡◌, ℕ, ◌+◌, ◌<◌, ◌≤◌, List, [], ◌∷◌, Option, Some, None, Result, Err, IsOkAnd}
use Rattle.state.specs.Prelude.{Deed, Reply, deed_of, reply_of, NoMemory, Ends, Asks, Dialogue, Course, gives, Status, FitsState, outcome_of}
use Rattle.acts.specs.History.{History}
use Rattle.acts.specs.declared.answer.Answer.{Answer}
use Rattle.machine.specs.Waiting.{next_of}
use Rattle.machine.specs.declared.waits.Waits.{Waits}
use Rattle.machine.specs.Frames.{Onward, load, onward_of, left_of, weight, weight_in, words_in}
use Rattle.steps.specs.Goes.{Goes}
use Rattle.machine.specs.View.{ending_of}
use Rattle.machine.specs.declared.closing.Closing.{Closing}
use Rattle.machine.specs.declared.closing.Closing.TheVariants as closing
use Rattle.machine.specs.declared.frame.Frame.{Frame}
use Rattle.machine.specs.declared.starting.Next.{Next}
use Rattle.machine.specs.declared.starting.Next.TheVariants as next
use Rattle.machine.specs.declared.unwinding.Unwound.{Unwound}
use Rattle.machine.specs.declared.unwinding.Unwound.TheVariants as unwound
use Rattle.machine.specs.declared.phase.Phase.{Phase}
use Rattle.machine.specs.declared.phase.Phase.TheVariants as phase
use Rattle.runs.specs.Commands.{command}
use Rattle.runs.specs.Closing.{does, ends_with, reported}
use Rattle.runs.specs.Ending.{Over, numbered}
use Rattle.steps.specs.Entered.{entered}
use Rattle.steps.specs.Run.{branches_in}
use Rattle.expects.specs.Expect.{by_name}
use Rattle.expects.specs.Turn.{turns}
use Rattle.expects.specs.View.{turn_of}
use Rattle.state.specs.Budget.{again_of}
use Rattle.state.specs.Leaf.{course_of}
use Rattle.state.specs.declared.leaf.Leaf.{Leaf}
use Rattle.state.specs.declared.leaf.Leaf.TheVariants as leaf
use Rattle.state.specs.declared.state.State.{State}

-- for some state of the definition that the code's state fits, the dialogue continues as the course
-- at hand, and then as the frames say
pub record Leads {A : Type 0} (last : Onward) (l : Leaf A (Waits A)) (frames : List (Frame A))
    (state : State A) (p : Dialogue Over) : Type 0 where
  pub status : Status
  pub fits : FitsState state status
  pub goes : Goes p (left_of last (course_of next_of l status) frames)

-- for some state of the definition that the code's state fits, the dialogue continues as the course
-- of what begins, and then as the frames say
pub record Begins {A : Type 0} (last : Onward) (course : Status → Course)
    (frames : List (Frame A)) (state : State A) (p : Dialogue Over) : Type 0 where
  pub status : Status
  pub fits : FitsState state status
  pub goes : Goes p (left_of last (course status) frames)

-- what begins, as a course
abbrev pub course_of_next : {A : Type 0} → Next A → Status → Course
course_of_next (next.Call words levels) s = command levels s words.items
course_of_next (next.Says words levels) s = by_name levels s words.items
course_of_next (next.Turn turn) s = turns (turn_of turn.value) turn.value.levels s
course_of_next next.Again s = gives [] s

-- what a frame did with an outcome: it gave another one, something begins, or a code is entered
abbrev pub Unwinds : {A : Type 0} → Onward → Unwound A → List (Frame A) → State A →
    Dialogue Over → Type 0
Unwinds last (unwound.Has outcome) frames state p = Leads last (leaf.Has outcome) frames state p
Unwinds last (unwound.Begins next) frames state p =
    Begins last (course_of_next next) frames state p
Unwinds last (unwound.Enters it levels value) frames state p =
    Begins last (λ s. entered it levels s value) frames state p

-- how much more may begin from what begins: a command may end by exp_continue, as an outcome may
abbrev pub more_of : {A : Type 0} → Next A → ℕ
more_of (next.Call words levels) = 1
more_of (next.Says words levels) = 0
more_of (next.Turn turn) = 0
more_of next.Again = 0

-- an outcome leaves lighter frames, and where something begins, less is left that may begin
abbrev pub Lightens : {A : Type 0} → Unwound A → List (Frame A) → State A → ℕ → ℕ → ℕ → Type 0
Lightens (unwound.Has outcome) frames state most waiting left =
    (weight frames < most) × (again_of (outcome_of outcome) + words_in frames ≤ waiting)
    × (state.left ≤ left)
Lightens (unwound.Begins next) frames state most waiting left =
    more_of next + load frames state < left + waiting
Lightens (unwound.Enters it levels value) frames state most waiting left =
    (weight_in it + weight frames ≤ most) × (branches_in it + words_in frames ≤ waiting)
    × (state.left ≤ left)

-- where a code is entered, its frame is gone, with its weight
abbrev pub IsLighter : {A : Type 0} → Unwound A → List (Frame A) → ℕ → Type 0
IsLighter (unwound.Has outcome) frames most = Unit {0}
IsLighter (unwound.Begins next) frames most = Unit {0}
IsLighter (unwound.Enters it levels value) frames most = weight_in it + weight frames ≤ most

-- all frames are gone where there is an outcome
abbrev pub IsEmptied : {A : Type 0} → Unwound A → List (Frame A) → Type 0
IsEmptied (unwound.Has outcome) frames = frames ≡ []
IsEmptied (unwound.Begins next) frames = Unit {0}
IsEmptied (unwound.Enters it levels value) frames = Unit {0}

-- what is done with the answer to an act that closes a run, where it fits
abbrev pub closing_on : {A : Type 0} → Closing A → Status → Reply → Dialogue Over
closing_on (closing.Report text) s reply = ends_with (reported text.items reply) s
closing_on (closing.Close end) s reply = ends_with (ending_of end) s

-- what a session is still to do from this state of the definition on, after this many answers
abbrev pub IsPlan : {A : Type 0} → Onward → Phase A → List (Frame A) → Status → ℕ →
    Dialogue Over → Type 0
IsPlan last (phase.Has outcome) frames s answers p =
    p ≡ onward_of last frames s (outcome_of outcome)
IsPlan last (phase.Asks act waits) frames s answers p =
    p ≡ left_of last (course_of next_of (leaf.Asks act waits) s) frames
IsPlan last (phase.Closes act c) frames s answers p = p ≡ does (deed_of act) (closing_on c s)
IsPlan last (phase.Over end) frames s answers p =
    (over : Over) × (p ≡ Ends over) × (ending_of end ≡ numbered answers over)
IsPlan last (phase.Refused refusal) frames s answers p = ⊥

-- for some state of the definition that the code's state fits, the dialogue continues as what the
-- session is still to do
pub record Stands {A : Type 0} (last : Onward) (at : Phase A) (frames : List (Frame A))
    (state : State A) (answers : ℕ) (p : Dialogue Over) : Type 0 where
  pub status : Status
  pub fits : FitsState state status
  pub plan : Dialogue Over
  pub is_plan : IsPlan last at frames status answers plan
  pub goes : Goes p plan

-- the act that waits for its answer
abbrev pub deed_in : {A : Type 0} → Phase A → Option Deed
deed_in (phase.Asks act waits) = Some (deed_of act)
deed_in (phase.Closes act c) = Some (deed_of act)
deed_in _ = None

-- an act with its answer, where an act waits and there is an answer
abbrev pub paired : {A : Type 0} → Option Deed → Option (Answer A) → History
paired (Some deed) (Some answer) = (deed, reply_of answer) ∷ []
paired _ _ = []

-- a dialogue after an answer to its first act
abbrev pub after_reply : Dialogue Over → Reply → Dialogue Over
after_reply (Asks deed next) reply = next reply
after_reply p reply = p

-- a dialogue after these acts and answers
abbrev pub after_acts : Dialogue Over → History → Dialogue Over
after_acts p [] = p
after_acts p (pair ∷ h) = after_acts (after_reply p pair.1) h

-- an act is asked, or the run is over
abbrev pub IsTold : {A : Type 0} → Phase A → Type 0
IsTold (phase.Has outcome) = ⊥
IsTold (phase.Asks act waits) = Unit {0}
IsTold (phase.Closes act c) = Unit {0}
IsTold (phase.Over end) = Unit {0}
IsTold (phase.Refused refusal) = ⊥

-- memory may be refused here: not where an act waits for its answer and none is given, not where
-- the run is closed or over
abbrev pub MayFail : {A : Type 0} → Phase A → Option (Answer A) → Type 0
MayFail (phase.Has outcome) answer = Unit {0}
MayFail (phase.Asks act waits) None = ⊥
MayFail (phase.Asks act waits) (Some answer) = Unit {0}
MayFail (phase.Closes act c) answer = ⊥
MayFail (phase.Over end) answer = ⊥
MayFail (phase.Refused refusal) answer = Unit {0}

-- an end is given again, and a refusal stays; `IsEnd` says whether what is given is that end
abbrev pub GivesAgain : {A X : Type 0} →
    (X → Phase A → Type 0) → Phase A → Result X NoMemory → Type 0
GivesAgain IsEnd (phase.Over end) r = IsOkAnd r (λ x. IsEnd x (phase.Over end))
GivesAgain IsEnd (phase.Refused refusal) r = r ≡ Err refusal
GivesAgain IsEnd _ r = Unit {0}
