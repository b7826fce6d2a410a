-- What sleep does.
use Rattle.std.specs.Prelude.{ℕ, ℤ, pos, negsuc, List, [], ◌∷◌, codes, Result, Ok, Err}
use Rattle.state.specs.Prelude.{Deed, Reply, Flaw, bind, Course, Status}
use Rattle.acts.specs.Deed as said
use Rattle.acts.specs.Flaw as flaw
use Rattle.kinds.specs.Exchange.{Exchange, Performs, gives, course}
use Rattle.kinds.specs.Words.{number}
use Rattle.processes.specs.declared.sleep.Waits.{Waits}

-- after the sleep, whatever its answer (expect(1), sleep)
abbrev pub follows : Exchange 3
follows = gives []

-- a number of seconds pass, where the number is not below 0 (expect(1), sleep)
abbrev pub sleeps : List ℕ → ℤ → Result (Exchange 4) Flaw
sleeps word (pos seconds) = Ok (Performs (said.Sleep seconds) tt (λ s reply. follows))
sleeps word (negsuc n) = Err (flaw.BadArgument word (codes "sleep"))

-- sleep n (expect(1), sleep)
abbrev pub sleep : List (List ℕ) → Result (Exchange 4) Flaw
sleep (w ∷ []) = bind (number w) (sleeps w)
sleep _ = Err (flaw.WrongArgs (codes "sleep"))

-- what follows the answer to the act of sleep, as a part of a run (expect(1), sleep)
abbrev pub next_of : Waits → Deed → Status → Reply → Course
next_of waits deed s reply = course follows s
