-- What the parts of foreach do in the code.
use Rattle.std.specs.Prelude.{◌≡◌, map, Option, Some, None, Result, Ok, Err}
use Rattle.state.specs.Prelude.{Fault, flaw_of, Course, raises, Outcome, Reaches, Status, FitsState}
use Rattle.nesting.specs.Foreach.{Pair, rows, turns}
use Rattle.state.specs.Turn.{on_turn}
use Rattle.nesting.specs.declared.foreach.Held.{Held}
use Rattle.nesting.specs.declared.pair.Pair as coded
use Rattle.state.specs.declared.state.State.{State}

-- the pair of the definition that a pair of the code stands for
abbrev pub pair_of : {A : Type 0} → coded.Pair A → Pair
pair_of p = record { names = p.names.items; elements = p.elements.items }

-- the turns that a loop is still to take
abbrev pub turns_left : {A : Type 0} → Held A → Status → Course
turns_left held = turns held.levels held.body
    (rows held.turns (map (λ p. pair_of p) held.pairs.items))

-- what follows the body of a turn (foreach(n))
abbrev pub next_of : {A : Type 0} → Held A → Status → Outcome → Course
next_of held = on_turn (turns_left held)

-- texts are read, and the script continues with what they are read as, or it has this error
abbrev pub Comes : {A X Y : Type 0} → Result X (Fault A) → (X → Y) →
    (Status → (Y → Course) → Course) → Type 0
Comes {Y = Y} (Ok x) seen part =
    (s : Status) (next : Y → Course) → Reaches (part s next) (next (seen x))
Comes {Y = Y} (Err fault) seen part =
    (s : Status) (next : Y → Course) → Reaches (part s next) (raises (flaw_of fault) s)

-- the script continues, or has this error
abbrev pub onward : {A : Type 0} → Option (Fault A) → (Status → Course) → Status → Course
onward None next s = next s
onward (Some fault) next s = raises (flaw_of fault) s

-- for some state of the definition that the code's state fits, the script continues from there, or
-- it has this error
pub record Assigned {A : Type 0} (told : Option (Fault A)) (state : State A)
    (part : (Status → Course) → Course) : Type 0 where
  pub status : Status
  pub fits : FitsState state status
  pub same : (next : Status → Course) → part next ≡ onward told next status
