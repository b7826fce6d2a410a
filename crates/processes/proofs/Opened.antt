-- How a command continues once the id of a process is open.
use Rattle.std.proofs.Common.{ℕ, Result, Ok, Err}
use Rattle.state.specs.Prelude.{Id, Raise, Deed, Reply, Course, Status, FitsState}
use Rattle.acts.specs.declared.raise.Raise.TheVariants as raise
use Rattle.choices.specs.Kinds.{Process}
use Rattle.kinds.specs.Answers.{GoesOn}
use Rattle.kinds.specs.Edits.{OpensId, opened_by}
use Rattle.processes.specs.Launch.{enters_process, running}
use Rattle.processes.specs.Numbers.{Opens}
use Rattle.state.specs.declared.leaf.Leaf.{Leaf}
use Rattle.state.specs.declared.state.State.{State}

-- a program that was started leads on as it does from the state in which its id is open
pub running_goes_on : {A W : Type 0} (next : W → Deed → Status → Reply → Course) (pid : ℕ)
    (i : Id) (s : Status) (r : Result (Leaf A W) (Raise A)) (old new : State A) →
    ((t : Status) → FitsState old t → GoesOn next (enters_process {n = 2} pid i t) t r new) →
    Opens (Process pid) s (Ok i) old →
    GoesOn next (running {n = 2} pid s) s r new
running_goes_on next pid i s (Ok l) old new goes opens =
    rw opens.0 (goes (opened_by (OpensId i (Process pid)) s) opens.1)
running_goes_on next pid i s (Err (raise.Fault why)) old new goes opens =
    rw opens.0 (goes (opened_by (OpensId i (Process pid)) s) opens.1)
running_goes_on next pid i s (Err (raise.NoMemory refusal)) old new goes opens = tt
