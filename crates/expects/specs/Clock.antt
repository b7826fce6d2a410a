-- The timer of a wait (expect(1), timeout).
use Rattle.std.specs.Prelude.{ℕ, ℤ, pos, negsuc, List, codes, Option, Some, None, Result, Ok}
use Rattle.state.specs.Prelude.{Flaw, bind, Status}
use Rattle.acts.specs.declared.act.Timer.{Timer}
use Rattle.acts.specs.declared.act.Timer.TheVariants as timer
use Rattle.kinds.specs.Words.{number}
use Rattle.state.specs.Variables.{consulted}

-- a timer that was started runs on, and where there is none there stays none (expect(1), timeout)
abbrev pub later : Timer → Timer
later (timer.Start seconds) = timer.Running
later timer.Running = timer.Running
later timer.Endless = timer.Endless

-- the timer of a number of seconds; a negative number means that there is no timer (expect(1),
-- timeout)
abbrev pub timer_of : ℤ → Timer
timer_of (pos seconds) = timer.Start seconds
timer_of (negsuc n) = timer.Endless

-- the timer that a variable asks for, which is one of 10 seconds where it is not set (expect(1),
-- timeout)
abbrev pub said_by : Option (List ℕ) → Result Timer Flaw
said_by None = Ok (timer.Start 10)
said_by (Some text) = bind (number text) (λ seconds. Ok (timer_of seconds))

-- a timer that is started: that of -timeout, else that of the variable timeout (expect(1), timeout)
abbrev pub started : Option ℤ → Status → Result Timer Flaw
started (Some seconds) s = Ok (timer_of seconds)
started None s = said_by (consulted s.scopes (codes "timeout"))

-- the timer of a wait: the one that was started before, else one that is started now (expect(1),
-- timeout)
abbrev pub clock_of : Option Timer → Option ℤ → Status → Result Timer Flaw
clock_of (Some clock) seconds s = Ok clock
clock_of None seconds s = started seconds s
