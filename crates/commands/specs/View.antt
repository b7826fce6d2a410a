-- How the waiting commands of the code continue.
use Rattle.state.specs.Prelude.{Deed, Reply, Course, Status}
use Rattle.commands.specs.declared.waits.Waits.{Waits}
use Rattle.commands.specs.declared.waits.Waits.TheVariants as waits
use Rattle.output.specs.LogFile as log_file
use Rattle.processes.specs.Close as close
use Rattle.processes.specs.Wait as wait
use Rattle.processes.specs.Sleep as sleep
use Rattle.processes.specs.Socket as socket
use Rattle.processes.specs.Spawn as spawn
use Rattle.output.specs.Send as send
use Rattle.output.specs.Channel as channel

-- what follows the answer to an act of a command
abbrev pub next_of : {A : Type 0} → Waits A → Deed → Status → Reply → Course
next_of (waits.Write own) = channel.next_of own
next_of (waits.Spawn own) = spawn.next_of own
next_of (waits.Send own) = send.next_of own
next_of (waits.Sleep own) = sleep.next_of own
next_of (waits.Socket own) = socket.next_of own
next_of (waits.Close own) = close.next_of own
next_of (waits.Wait own) = wait.next_of own
next_of (waits.LogFile own) = log_file.next_of own
