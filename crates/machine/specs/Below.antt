-- What a session has still to do: frames, the code below them, and the parts below that.
use Rattle.std.specs.Prelude.{◌≡◌, ℕ, ◌+◌, ◌*◌, ◌<◌, ◌≤◌, List, [], ◌∷◌, reverse, Option, Some, None, Result, Vec, if◌then◌else◌}
use Rattle.code.specs.Doing.{are_still}
use Rattle.code.specs.declared.made.Entry.{Entry}
use Rattle.machine.specs.Frames.{Onward, onward_of, stack, weight, words_in}
use Rattle.machine.specs.Phases.{Begins, IsTold, Leads, Stands, course_of_next, more_of}
use Rattle.machine.specs.declared.advancing.Settled.{Settled}
use Rattle.machine.specs.declared.advancing.Settled.TheVariants as settled
use Rattle.machine.specs.declared.frame.Frame.{Frame}
use Rattle.machine.specs.declared.phase.Phase.{Phase}
use Rattle.machine.specs.declared.running.Handed.{Handed}
use Rattle.machine.specs.declared.running.Handed.TheVariants as handed
use Rattle.machine.specs.declared.running.Led.{Led}
use Rattle.machine.specs.declared.running.Led.TheVariants as led
use Rattle.machine.specs.declared.running.Part.{Part}
use Rattle.machine.specs.declared.running.Running.{Running}
use Rattle.runs.specs.Closing.{closing}
use Rattle.runs.specs.Ending.{Over}
use Rattle.runs.specs.Run.{initial, whole}
use Rattle.state.specs.Budget.{again_of}
use Rattle.state.specs.Prelude.{Dialogue, FitsState, Gives, Outcome, Status, outcome_of}
use Rattle.state.specs.declared.leaf.Leaf.TheVariants as leaf
use Rattle.state.specs.declared.outcome.Leave.{Leave}
use Rattle.state.specs.declared.state.State.{State}
use Rattle.steps.specs.Goes.{Goes}
use Rattle.steps.specs.Run.{Awaits, branches_in, places_left}
use Rattle.steps.specs.declared.run.Run.{Run}

-- the parts that wait, the top one first
abbrev pub parts_of : {A : Type 0} → Running A → List (Part A)
parts_of running = reverse running.parts.items

-- what is done with the outcome of the lowest frame: the code goes on with it, and this is done
-- after the code; where there is no code, this is done with it
abbrev pub Under : {A : Type 0} → Option (Run A) → Onward → Onward → Type 0
Under None after last = last ≡ after
Under (Some run) after last = Awaits after run last

-- what is done after the code, where these parts wait: the frames of the top one take the outcome,
-- from the top down, and then what lies below them; after the last one the run is closed
pub record Waits {A : Type 0} (Beneath : Onward → Type 0) (part : Part A) (after : Onward) :
    Type 0 where
  pub base : Onward
  pub last : Onward
  pub beneath : Beneath base
  pub under : Under part.code base last
  pub is : after ≡ onward_of last (stack part.frames)

abbrev pub Beneath : {A : Type 0} → List (Part A) → Onward → Type 0
Beneath [] after = after ≡ closing
Beneath (part ∷ parts) after = Waits (Beneath parts) part after

-- what is done with the outcome of the lowest frame: the code takes it, and then what waits for the
-- code
pub record Lies {A : Type 0} (parts : List (Part A)) (code : Option (Run A)) (last : Onward) :
    Type 0 where
  pub after : Onward
  pub beneath : Beneath parts after
  pub under : Under code after last

-- what lies below the frames of a session
abbrev pub IsBelow : {A : Type 0} → Running A → Onward → Type 0
IsBelow running last = Lies (parts_of running) running.code last

-- what a session hands an outcome to has it, or something begins, or nothing is left of it
abbrev pub Hands : {A : Type 0} → Onward → Handed A → List (Frame A) → State A →
    Dialogue Over → Type 0
Hands {A} last (handed.Over outcome) frames state p =
    let none : List (Frame A) = [] in Leads closing (leaf.Has outcome) none state p
Hands last (handed.Has outcome) frames state p = Leads last (leaf.Has outcome) frames state p
Hands last (handed.Begins next) frames state p =
    Begins last (course_of_next next) frames state p

-- for some state of the definition that the code's state fits, the dialogue continues with the
-- outcome, or as what begins, and then as the session says
pub record GoesOn {A : Type 0} (h : Handed A) (running : Running A) (state : State A)
    (p : Dialogue Over) : Type 0 where
  pub last : Onward
  pub below : IsBelow running last
  pub hands : Hands last h (stack running.frames) state p

-- how many places the code has still before it
abbrev pub places_in : {A : Type 0} → Option (Run A) → ℕ
places_in None = 0
places_in (Some run) = places_left run

-- how much may begin by a code before the next tick: two from each place, since a command may begin
-- there, and may end by exp_continue; nothing where no command begins by it
abbrev pub begins_left : {A : Type 0} → Run A → ℕ
begins_left run = if are_still run.code.value.items then 0 else 2 * places_left run

abbrev pub begins_in : {A : Type 0} → Option (Run A) → ℕ
begins_in None = 0
begins_in (Some run) = begins_left run

-- how much more may begin in the parts that wait, before the next tick
abbrev pub waits_in : {A : Type 0} → List (Part A) → ℕ
waits_in [] = 0
waits_in (part ∷ parts) = words_in (stack part.frames) + begins_in part.code + waits_in parts

-- how much more may begin in a session before the next tick
abbrev pub rest_of : {A : Type 0} → Running A → ℕ
rest_of running =
    words_in (stack running.frames) + begins_in running.code + waits_in (parts_of running)

-- how often a code may take an outcome before the next tick: once, and after each of its texts,
-- which stands above it then
abbrev pub takes_of : {A : Type 0} → Option (Run A) → ℕ
takes_of None = 0
takes_of (Some run) = 1 + 3 * places_left run

-- how often an outcome may be handed on in the parts that wait, before the next tick
abbrev pub height : {A : Type 0} → List (Part A) → ℕ
height [] = 0
height (part ∷ parts) =
    2 * weight (stack part.frames) + 2 + 3 * places_in part.code + height parts

-- how often an outcome may be handed on in a session before the next tick
abbrev pub depth : {A : Type 0} → Running A → ℕ
depth running =
    2 * weight (stack running.frames) + takes_of running.code + height (parts_of running)

-- where an outcome is handed on without a tick, less is left to hand it to than this
abbrev pub FallsTo : {A : Type 0} → Handed A → Running A → ℕ → Type 0
FallsTo (handed.Over outcome) new most = Unit {0}
FallsTo (handed.Begins next) new most = Unit {0}
FallsTo (handed.Has outcome) new most = depth new < most

-- less is left then than before
abbrev pub Falls : {A : Type 0} → Handed A → Running A → Running A → Type 0
Falls h old new = FallsTo h new (depth old)

-- without a tick less is left that may begin, or not more where nothing begins
abbrev pub IsLess : {A : Type 0} → Handed A → Running A → ℕ → Type 0
IsLess (handed.Over outcome) running most = Unit {0}
IsLess (handed.Begins next) running most = more_of next + rest_of running < most
IsLess (handed.Has outcome) running most = again_of (outcome_of outcome) + rest_of running ≤ most

-- where an outcome is handed on, a tick was taken
abbrev pub HasTicked : {A : Type 0} → Handed A → ℕ → ℕ → Type 0
HasTicked (handed.Over outcome) now left = Unit {0}
HasTicked (handed.Begins next) now left = Unit {0}
HasTicked (handed.Has outcome) now left = now < left

-- nothing has begun but branches that are given last, where they may be given, and what the code
-- ends with is not of exp_continue
abbrev pub TicksFirst : {A : Type 0} → ℕ → Led A → Run A → Type 0
TicksFirst said (led.Over outcome) run = again_of (outcome_of outcome) ≡ 0
TicksFirst said (led.Has outcome) run = ⊥
TicksFirst said (led.Begins next) run =
    (0 < said) × (more_of next ≡ 0) × (places_left run ≡ 0)

-- how much may begin by a code that was entered with a value, before the next tick: its branches,
-- and no more
abbrev pub EntersLess : {A : Type 0} → Entry A → Led A → Run A → Type 0
EntersLess it (led.Over outcome) run = again_of (outcome_of outcome) ≡ 0
EntersLess it (led.Has outcome) run = begins_left run ≡ 0
EntersLess it (led.Begins next) run = more_of next + begins_left run < branches_in it

-- how much may begin by the code before the next tick, and one more where something begins
abbrev pub left_to_run : {A : Type 0} → Led A → Run A → ℕ
left_to_run (led.Over outcome) run = again_of (outcome_of outcome)
left_to_run (led.Has outcome) run = begins_left run
left_to_run (led.Begins next) run = 1 + more_of next + begins_left run

-- a code that is not over stands further on than before
abbrev pub IsOnward : {A : Type 0} → Led A → Run A → Run A → Type 0
IsOnward (led.Over outcome) old new = Unit {0}
IsOnward (led.Has outcome) old new = places_left new < places_left old
IsOnward (led.Begins next) old new = places_left new < places_left old

-- above a code stand the frames that stood there; where they take an outcome of a text, no more may
-- begin by them before the next tick, and one may be new
abbrev pub IsAbove : {A : Type 0} → Led A → List (Frame A) → List (Frame A) → Type 0
IsAbove (led.Over outcome) old new = Unit {0}
IsAbove (led.Has outcome) old new =
    (again_of (outcome_of outcome) + words_in new ≤ words_in old) × (weight new ≤ 1 + weight old)
IsAbove (led.Begins next) old new = new ≡ old

-- the code is over with this outcome: the part that waits goes on, or nothing is left
abbrev pub IsBack : {A : Type 0} → List (Part A) → Handed A → Result (List ℕ) (Leave A) →
    Running A → Type 0
IsBack [] h outcome new = (h ≡ handed.Over outcome) × (new.code ≡ None) × (parts_of new ≡ [])
IsBack (part ∷ parts) h outcome new =
    (h ≡ handed.Has outcome) × (new.frames ≡ part.frames) × (new.code ≡ part.code) ×
    (parts_of new ≡ parts)

-- these frames wait, with the code below them, for this code, which waits for its frames
abbrev pub IsOpen : {A : Type 0} → Running A → Run A → Vec (Frame A) A → Running A → Type 0
IsOpen old run frames new =
    (parts_of new ≡ record { frames = old.frames; code = old.code } ∷ parts_of old)
    × (new.frames ≡ frames) × (new.code ≡ Some run)

-- for some state of the definition that the code's state fits, the dialogue continues as what the
-- code led to, and then as the code says
pub record Opens {A : Type 0} (last : Onward) (run : Run A) (On : Onward → Type 0) : Type 0 where
  pub onward : Onward
  pub awaits : Awaits last run onward
  pub on : On onward

-- the code went on with an outcome: it is over, with this outcome, or the frames above it take
-- this outcome, or something begins by its words
abbrev pub RunsOn : {A : Type 0} → Onward → Led A → List (Frame A) → Run A → State A →
    Dialogue Over → Type 0
RunsOn {A} last (led.Over outcome) frames run state p =
    let none : List (Frame A) = [] in Leads last (leaf.Has outcome) none state p
RunsOn last (led.Has outcome) frames run state p =
    Opens last run (λ onward. Leads onward (leaf.Has outcome) frames state p)
RunsOn {A} last (led.Begins next) frames run state p =
    let none : List (Frame A) = [] in
    Opens last run (λ onward. Begins onward (course_of_next next) none state p)

-- for some state of the definition that the code's state fits, the dialogue continues as what the
-- session is still to do
pub record StandsOver {A : Type 0} (running : Running A) (at : Phase A) (state : State A)
    (answers : ℕ) (p : Dialogue Over) : Type 0 where
  pub last : Onward
  pub below : IsBelow running last
  pub stands : Stands last at (stack running.frames) state answers p

-- for some state of the definition that the code's state fits, the dialogue continues as what the
-- session is still to do with this outcome
pub record ComesOver {A : Type 0} (running : Running A) (state : State A) (o : Outcome)
    (p : Dialogue Over) : Type 0 where
  pub last : Onward
  pub below : IsBelow running last
  pub status : Status
  pub fits : FitsState state status
  pub goes : Goes p (onward_of last (stack running.frames) status o)

-- what a session was to do with the first outcome it is now to do with the other
abbrev pub ComesFrom : {A : Type 0} → Running A → State A → Outcome → Running A → State A →
    Outcome → Type 0
ComesFrom old before first running state outcome =
    (last : Onward) (s : Status) → FitsState before s → IsBelow old last →
    ComesOver running state outcome (onward_of last (stack old.frames) s first)

-- silent steps led to where the session stands, or to an outcome that is handed on
abbrev pub Settles : {A : Type 0} → Settled A → Running A → State A → ℕ → Dialogue Over → Type 0
Settles (settled.Stands phase) running state answers p = StandsOver running phase state answers p
Settles (settled.Has outcome) running state answers p =
    ComesOver running state (outcome_of outcome) p

-- where the session stands, an act is asked or the run is over
abbrev pub IsSettled : {A : Type 0} → Settled A → Type 0
IsSettled (settled.Stands phase) = IsTold phase
IsSettled (settled.Has outcome) = Unit {0}

-- where an outcome is handed on, fewer ticks are left
abbrev pub HasFewer : {A : Type 0} → Settled A → ℕ → ℕ → Type 0
HasFewer (settled.Stands phase) now left = Unit {0}
HasFewer (settled.Has outcome) now left = now < left

-- a session of which nothing is done yet: each whole run of this text continues as it says
pub record IsWhole {A : Type 0} (running : Running A) (text : List ℕ) : Type 0 where
  pub last : Onward
  pub below : IsBelow running last
  pub goes : (args : List (List ℕ)) (limit : ℕ) →
      Goes (whole text args limit)
      (onward_of last (stack running.frames) (initial args limit) (Gives []))
