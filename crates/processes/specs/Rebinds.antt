-- What a change of the variables answers, in the code and in the definition.
use Rattle.std.specs.Prelude.{◌≡◌, Result, Ok, Err}
use Rattle.state.specs.Prelude.{Raise, Flaw, Fails, Status, FitsState, Scopes}
use Rattle.kinds.specs.Edits.{Binds, edited}
use Rattle.state.specs.declared.state.State.{State}

-- the variables are those that are meant in both states, or there is an error, and nothing has
-- changed
abbrev pub Rebinds : {A T : Type 0} → Result Scopes Flaw → Status → Result T (Raise A) → State A →
    Type 0
Rebinds meant s (Ok done) state =
    (meant ≡ Ok state.scopes) × FitsState state (edited (Binds state.scopes) s)
Rebinds meant s (Err why) state = Fails meant why × FitsState state s
