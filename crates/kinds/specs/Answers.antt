-- What a command answers, in the code and in the definition.
use Rattle.std.specs.Prelude.{◌≡◌, ℕ, List, Option, Result, Ok, Err, IsOkAnd}
use Rattle.state.specs.Prelude.{Deed, Reply, deed_of, Flaw, flaw_of, text_of, Fails, Fault, Raise, Ends, Course, Shows, Gives, Reaches, Status, FitsState, outcome_of, raised, Scopes}
use Rattle.acts.specs.declared.raise.Raise.TheVariants as raise
use Rattle.kinds.specs.Edits.{edited, opened_by}
use Rattle.kinds.specs.Exchange.{Exchange, Over, Edits, Opens, Performs, course}
use Rattle.state.specs.declared.leaf.Leaf.{Leaf}
use Rattle.state.specs.declared.leaf.Leaf.TheVariants as leaf
use Rattle.state.specs.declared.outcome.Code.TheVariants as code
use Rattle.state.specs.declared.outcome.Leave.{Leave}
use Rattle.state.specs.declared.outcome.Leave.TheVariants as leave
use Rattle.state.specs.declared.state.State.{State}
use Rattle.state.specs.Leaf.{HasOutcome}
use Rattle.state.specs.Stores.{IsTold}
use Rattle.tclstate.specs.declared.error.ScopeError.{ScopeError}

-- the exchange, from this state on, has come as far as the code: both are over, or the same act
-- waits for its answer in both, and the same course follows each answer; the code's state fits the
-- one that the changes up to there leave
abbrev pub Goes : {A W : Type 0} {n : ℕ} → (W → Deed → Status → Reply → Course) → Exchange n →
    Status → Leaf A W → State A → Type 0
Goes next (Over outcome) s (leaf.Has o) state = (outcome_of o ≡ outcome) × FitsState state s
Goes next (Over outcome) s (leaf.Asks act waits) state = ⊥
Goes next (Edits edit rest) s l state = Goes next rest (edited edit s) l state
Goes next (Opens opening rest) s l state = Goes next rest (opened_by opening s) l state
Goes next (Performs deed holds follows) s (leaf.Has o) state = ⊥
Goes next (Performs deed holds follows) s (leaf.Asks act waits) state =
    (deed_of act ≡ deed)
    × ((t : Status) (reply : Reply) → course (follows t reply) t ≡ next waits deed t reply)
    × FitsState state s

-- a command begins as its exchange does, or answers the error of its words, and has changed nothing
abbrev pub Talks : {A W : Type 0} {n : ℕ} → (W → Deed → Status → Reply → Course) →
    Result (Exchange n) Flaw → Status → Result (Leaf A W) (Raise A) → State A → Type 0
Talks next meant s (Ok l) state = IsOkAnd meant (λ exchange. Goes next exchange s l state)
Talks next meant s (Err why) state = Fails meant why × FitsState state s

-- the command goes on as the exchange does; an error is how it ends
abbrev pub GoesOn : {A W : Type 0} {n : ℕ} → (W → Deed → Status → Reply → Course) → Exchange n →
    Status → Result (Leaf A W) (Raise A) → State A → Type 0
GoesOn next exchange s (Ok l) state = Goes next exchange s l state
GoesOn {A = A} {W = W} next exchange s (Err (raise.Fault why)) state =
    let failed : Leaf A W = leaf.Has (Err (leave.Coded code.Error (text_of (flaw_of why)))) in
    Goes next exchange s failed state
GoesOn next exchange s (Err (raise.NoMemory refusal)) state = Unit {0}

-- an exchange without acts is over with this value, and leaves the state
abbrev pub EndsWith : {A : Type 0} {n : ℕ} → Exchange n → Status → List ℕ → State A → Type 0
EndsWith (Over outcome) s value state = (outcome ≡ Gives value) × FitsState state s
EndsWith (Edits edit rest) s value state = EndsWith rest (edited edit s) value state
EndsWith (Opens opening rest) s value state = EndsWith rest (opened_by opening s) value state
EndsWith (Performs deed holds follows) s value state = ⊥

-- a command without acts has this value, or answers the error of its words, and has changed nothing
abbrev pub Sets : {A : Type 0} → Result (Exchange 0) Flaw → Status →
    Result (List ℕ) (Raise A) → State A → Type 0
Sets meant s (Ok value) state = IsOkAnd meant (λ exchange. EndsWith exchange s value state)
Sets meant s (Err why) state = Fails meant why × FitsState state s

-- a command that sees V alone: its value, and the V that it leaves; with an error nothing has
-- changed
abbrev pub Stores : {A V : Type 0} → Result (V × List ℕ) Flaw → V → Result (List ℕ) (Raise A) → V →
    Type 0
Stores meant old (Ok value) new = meant ≡ Ok (new, value)
Stores meant old (Err why) new = Fails meant why × (new ≡ old)

-- the same, but where memory was refused, nothing is said
abbrev pub Keeps : {A V : Type 0} → Result (V × List ℕ) Flaw → V → Result (List ℕ) (Raise A) → V →
    Type 0
Keeps meant old (Ok value) new = meant ≡ Ok (new, value)
Keeps meant old (Err (raise.Fault why)) new = (meant ≡ Err (flaw_of why)) × (new ≡ old)
Keeps meant old (Err (raise.NoMemory refusal)) new = Unit {0}

-- a change of the variables, or an error where there is none
abbrev pub Puts : {A : Type 0} {T : Type 0} → Result Scopes Flaw → Scopes → Result T (Raise A) →
    Scopes → Type 0
Puts meant old (Ok done) new = meant ≡ Ok new
Puts meant old (Err why) new = Fails meant why × (new ≡ old)

-- changes of the variables, or the error of the first of them, with which nothing has changed;
-- where memory was refused, nothing is said
abbrev pub PutsAll : {A : Type 0} {T : Type 0} → Result Scopes Flaw → Scopes → Result T (Raise A) →
    Scopes → Type 0
PutsAll meant old (Ok done) new = meant ≡ Ok new
PutsAll meant old (Err (raise.Fault why)) new = (meant ≡ Err (flaw_of why)) × (new ≡ old)
PutsAll meant old (Err (raise.NoMemory refusal)) new = Unit {0}

-- the script's error for the trouble of a variable, except where memory was refused
abbrev pub IsTroubled : {A : Type 0} → Raise A → ScopeError → List ℕ → Option (List ℕ) → Type 0
IsTroubled (raise.Fault why) error name index = IsTold why error name index
IsTroubled (raise.NoMemory refusal) error name index = Unit {0}

-- for some state of the definition that the code's state fits, the course ends with this error,
-- once the texts that it reads are read
pub record Raised {A : Type 0} (why : Fault A) (state : State A) (c : Course) : Type 0 where
  pub status : Status
  pub fits : FitsState state status
  pub reaches : Reaches c (Ends (status, raised why))

-- a command is as far as its course, or answers the error with which the course ends
abbrev pub Comes : {A W : Type 0} → (W → Deed → Status → Reply → Course) → Course →
    Result (Leaf A W) (Raise A) → State A → Type 0
Comes next c (Ok l) state = Shows next l state c
Comes next c (Err (raise.Fault why)) state = Raised why state c
Comes next c (Err (raise.NoMemory refusal)) state = Unit {0}

-- a command that answers an error ends with it
abbrev pub Settles : {A W : Type 0} → Result (Leaf A W) (Raise A) → Leaf A W → Type 0
Settles (Ok l) settled = settled ≡ l
Settles (Err (raise.Fault why)) settled = HasOutcome settled (raised why)
Settles (Err (raise.NoMemory refusal)) settled = ⊥

-- the command ends with this error
abbrev pub IsFailure : {A : Type 0} → Raise A → Result (List ℕ) (Leave A) → Type 0
IsFailure (raise.Fault why) outcome = outcome_of outcome ≡ raised why
IsFailure (raise.NoMemory refusal) outcome = ⊥
