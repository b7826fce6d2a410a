-- How far a command has come that began.
use Rattle.std.specs.Prelude.{◌≡◌, ℕ, List, Result, Ok, Err}
use Rattle.commands.specs.Acting.{does}
use Rattle.commands.specs.View.{next_of}
use Rattle.commands.specs.declared.table.Began.{Began}
use Rattle.commands.specs.declared.table.Began.TheVariants as began
use Rattle.kinds.specs.Answers.{Comes as comes}
use Rattle.kinds.specs.Exchange.{talks}
use Rattle.state.specs.Prelude.{Course, FitsState, Raise, Shows, Status}
use Rattle.state.specs.declared.leaf.Leaf.TheVariants as leaf
use Rattle.state.specs.declared.state.State.{State}

-- a command with these words after its name is over as its course is; or it is one that asks for
-- acts, nothing has changed, and its course is what that one does
abbrev pub Begins : {A : Type 0} → Course → Began A → List (List ℕ) → Status → State A → Type 0
Begins {A = A} c (began.Has outcome) args s state =
    Shows (next_of {A = A}) (leaf.Has outcome) state c
Begins c (began.Asks own) args s state = (c ≡ talks (does own args s) s) × FitsState state s

-- the same, or the command answers the error with which its course ends
abbrev pub Comes : {A : Type 0} → Course → Result (Began A) (Raise A) → List (List ℕ) → Status →
    State A → Type 0
Comes c (Ok b) args s state = Begins c b args s state
Comes {A = A} c (Err why) args s state = comes (next_of {A = A}) c (Err why) state
