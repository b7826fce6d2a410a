-- The numbers of ids.
use Rattle.std.specs.Prelude.{◌≡◌, Option, Some, None, Result, Ok, Err}
use Rattle.state.specs.Prelude.{Id, Raise, Flaw, flaw_of, Status, FitsState}
use Rattle.acts.specs.declared.raise.Raise.TheVariants as raise
use Rattle.acts.specs.Flaw as flaw
use Rattle.choices.specs.Kinds.{Kind}
use Rattle.kinds.specs.Edits.{OpensId, opened_by}
use Rattle.state.specs.declared.state.State.{State}
use Rattle.state.specs.Ids.{next_in}

-- the id of the next number, where there is one (this project's own rule)
abbrev pub numbered : Option Id → Result Id Flaw
numbered (Some i) = Ok i
numbered None = Err flaw.TooManyIds

-- the id of the next number, under which an act is made; the answer to the act uses the number up
-- (this project's own rule)
abbrev pub next_id : Status → Result Id Flaw
next_id s = numbered (next_in s.ids)

-- the id of the next number is open in both states, or there is none, and nothing has changed
abbrev pub Opens : {A : Type 0} → Kind → Status → Result Id (Raise A) → State A → Type 0
Opens kind s (Ok i) state = (next_id s ≡ Ok i) × FitsState state (opened_by (OpensId i kind) s)
Opens kind s (Err (raise.Fault why)) state = (next_id s ≡ Err (flaw_of why)) × FitsState state s
Opens kind s (Err (raise.NoMemory refusal)) state = Unit {0}
