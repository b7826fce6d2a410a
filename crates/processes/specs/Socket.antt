-- What socket does.
use Rattle.std.specs.Prelude.{ℕ, nat_le, ◌&&◌, Bool, ℤ, pos, negsuc, List, [], ◌∷◌, codes, Result, Ok, Err, if◌then◌else◌}
use Rattle.state.specs.Prelude.{Id, Deed, Reply, Flaw, bind, Course, Status}
use Rattle.acts.specs.Deed as said
use Rattle.acts.specs.Flaw as flaw
use Rattle.choices.specs.Channels.{channel_text}
use Rattle.choices.specs.Kinds.{Socket}
use Rattle.kinds.specs.Edits.{OpensId, Skips}
use Rattle.kinds.specs.Exchange.{Exchange, Edits, Opens, Performs, course, fails, gives, settled}
use Rattle.kinds.specs.Words.{number}
use Rattle.processes.specs.Numbers.{next_id}
use Rattle.processes.specs.declared.socket.Waits.{Waits}

-- the id of a connection is open, and its channel is given (socket(n))
abbrev pub opens : Id → Exchange 3
opens i = Opens (OpensId i Socket) (gives (channel_text i.0))

-- a server was reached (socket(n))
abbrev pub reached : Status → Exchange 3
reached s = settled (bind (next_id s) (λ i. Ok (opens i)))

-- what follows an answer to a call of a server (socket(n))
abbrev pub connected : Flaw → Status → Reply → Exchange 3
connected why s said.Done = reached s
connected why s _ = Edits Skips (fails why)

-- a server is called under a number (socket(n))
abbrev pub connects : List ℕ → ℕ → Id → Exchange 4
connects host port i =
    Performs (said.Connect i host port) tt (connected (flaw.CannotConnect host port))

-- a number is that of a port (socket(n))
abbrev pub is_port : ℕ → Bool
is_port n = nat_le 1 n && nat_le n 65535

-- the port of a number, or the error of the word (socket(n))
abbrev pub port_of : List ℕ → ℤ → Result ℕ Flaw
port_of word (pos n) = if is_port n then Ok n else Err (flaw.BadArgument word (codes "socket"))
port_of word (negsuc n) = Err (flaw.BadArgument word (codes "socket"))

-- the port that a word says (socket(n))
abbrev pub port_said : List ℕ → Result ℕ Flaw
port_said word = bind (number word) (port_of word)

-- the words of a host and of a port, where there are these two words and no other (socket(n))
abbrev pub two_words : List (List ℕ) → Result (List ℕ × List ℕ) Flaw
two_words (host ∷ word ∷ []) = Ok (host, word)
two_words _ = Err (flaw.WrongArgs (codes "socket"))

-- a server is called at the port that a word says, under the next number (socket(n))
abbrev pub calls : List ℕ → List ℕ → Status → Result (Exchange 4) Flaw
calls host word s =
    bind (port_said word) (λ port. bind (next_id s) (λ i. Ok (connects host port i)))

-- socket host port (socket(n))
abbrev pub socket : List (List ℕ) → Status → Result (Exchange 4) Flaw
socket args s = bind (two_words args) (λ words. calls words.0 words.1 s)

-- the error of a server that an act could not reach
abbrev pub refusal_of : Deed → Flaw
refusal_of (said.Connect i host port) = flaw.CannotConnect host port
refusal_of _ = flaw.CannotConnect [] 0

-- what follows the answer to the act of socket (socket(n))
abbrev pub follows : Deed → Status → Reply → Exchange 3
follows deed = connected (refusal_of deed)

-- the same, as a part of a run
abbrev pub next_of : Waits → Deed → Status → Reply → Course
next_of waits deed s reply = course (follows deed s reply) s
