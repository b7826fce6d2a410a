-- An error of one command is one of all commands.
use Rattle.std.proofs.Common.{ℕ, List, Result, Err, sym, ap}
use Rattle.state.proofs.Reaches.{same_reaches, then_reaches}
use Rattle.state.specs.Prelude.{Deed, Ends, Outcome, Reply, Raise, Course, Shows, Status}
use Rattle.acts.specs.declared.raise.Raise.TheVariants as raise
use Rattle.commands.specs.View.{next_of}
use Rattle.kinds.proofs.Comes.{goes_on_comes}
use Rattle.kinds.specs.Answers.{Comes, GoesOn, IsFailure}
use Rattle.kinds.specs.Exchange.{Exchange, course}
use Rattle.state.specs.declared.leaf.Leaf.TheVariants as leaf
use Rattle.state.specs.declared.outcome.Leave.{Leave}
use Rattle.state.specs.declared.state.State.{State}

-- an error is reported alike, whatever state the command would have waited in
pub failed_comes : {A W : Type 0} (own : W → Deed → Status → Reply → Course) (state : State A)
    {n : ℕ} (exchange : Exchange n) (s : Status) (why : Raise A) →
    GoesOn own exchange s (Err why) state →
    Comes (next_of {A = A}) (course exchange s) (Err why) state
failed_comes own state exchange s (raise.Fault why) goes =
    goes_on_comes own state exchange s (Err (raise.Fault why)) goes
failed_comes own state exchange s (raise.NoMemory refusal) goes = tt

-- a command that answers an error ends with it
pub failure_shows : {A : Type 0} (c : Course) (state : State A) (why : Raise A)
    (outcome : Result (List ℕ) (Leave A)) → Comes (next_of {A = A}) c (Err why) state →
    IsFailure why outcome → Shows (next_of {A = A}) (leaf.Has outcome) state c
failure_shows c state (raise.Fault why) outcome raised is = record {
  status = raised.status;
  fits = raised.fits;
  reaches = then_reaches raised.reaches
      (same_reaches (ap (λ (o : Outcome). let over : Course = Ends (raised.status, o) in over) (sym is)));
}
failure_shows c state (raise.NoMemory refusal) outcome raised is = absurd is
