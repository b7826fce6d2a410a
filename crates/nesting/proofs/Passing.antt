-- Which outcomes of a script are passed on.
use Rattle.std.proofs.Common.{◌≡◌, ℕ, List, Err, refl}
use Rattle.state.specs.Prelude.{Ends, Course, on_value, Status, outcome_of}
use Rattle.state.specs.declared.outcome.Leave.{Leave}
use Rattle.state.specs.declared.outcome.Leave.TheVariants as leave

-- what is no value is passed on
pub value_passes : {A : Type 0} (next : Status → List ℕ → Course) (s : Status) (end : Leave A) →
    on_value next s (outcome_of (Err end)) ≡ Ends (s, outcome_of (Err end))
value_passes next s (leave.Coded code value) = refl
value_passes next s (leave.Stopped stop) = refl
