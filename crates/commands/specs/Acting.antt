-- The commands that ask for acts.
use Rattle.std.specs.Prelude.{ℕ, List, Result}
use Rattle.state.specs.Prelude.{Flaw, Status}
use Rattle.commands.specs.declared.acting.Acting.{Acting}
use Rattle.commands.specs.declared.acting.Acting.TheVariants as acting
use Rattle.kinds.specs.Exchange.{Exchange}
use Rattle.output.specs.LogFile.{log_file}
use Rattle.output.specs.SendError.{send_error}
use Rattle.output.specs.SendLog.{send_log}
use Rattle.output.specs.SendUser.{send_user}
use Rattle.processes.specs.Close.{close}
use Rattle.processes.specs.Wait.{wait}
use Rattle.processes.specs.Sleep.{sleep}
use Rattle.processes.specs.Socket.{socket}
use Rattle.processes.specs.Spawn.{spawn}
use Rattle.output.specs.Send.{send}
use Rattle.output.specs.Puts.{puts}

-- what each does with the words after its name (expect(1); puts(n), socket(n), close(n))
abbrev pub does : Acting → List (List ℕ) → Status → Result (Exchange 4) Flaw
does acting.Puts args s = puts args
does acting.Spawn args s = spawn args s
does acting.Send args s = send args s
does acting.Sleep args s = sleep args
does acting.Socket args s = socket args s
does acting.Close args s = close args s
does acting.Wait args s = wait args s
does acting.SendUser args s = send_user args
does acting.SendError args s = send_error args
does acting.SendLog args s = send_log args s
does acting.LogFile args s = log_file args s
