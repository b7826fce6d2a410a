-- What wait does.
use Rattle.std.specs.Prelude.{ℕ, List, [], ◌∷◌, ◌++◌, codes, decimal, Option, Some, None, Result, Ok, Err, if◌then◌else◌}
use Rattle.state.specs.Prelude.{Id, Deed, Reply, Flaw, bind, Course, Status}
use Rattle.std.specs.Str.{bytes_eq}
use Rattle.acts.specs.Deed as said
use Rattle.acts.specs.Flaw as flaw
use Rattle.acts.specs.Id.{id_text}
use Rattle.choices.specs.Kinds.{Kind, Process, Socket}
use Rattle.kinds.specs.Edits.{Reaps}
use Rattle.kinds.specs.Exchange.{Exchange, Edits, Performs, gives, course}
use Rattle.kinds.specs.Usage.{after_pair, no_more}
use Rattle.processes.specs.declared.wait.Waits.{Waits}
use Rattle.state.specs.Ids.{Unreaped, unreaped}
use Rattle.state.specs.Variables.{consulted}

-- the id, not yet waited for, that a text spells (expect(1), wait)
abbrev pub among : List Unreaped → List ℕ → Option Unreaped
among [] text = None
among (u ∷ us) text = if bytes_eq text (id_text u.id.0) then Some u else among us text

-- an id that may be waited for, or the error that the text spells none (expect(1), wait)
abbrev pub spelled : Option Unreaped → List ℕ → Result Unreaped Flaw
spelled (Some u) text = Ok u
spelled None text = Err (flaw.NotOpen (Some text))

-- the id, not yet waited for, that a text spells; a text that spells none is named in the error as
-- it stands (expect(1), wait)
abbrev pub unreaped_named : List ℕ → Status → Result Unreaped Flaw
unreaped_named text s = spelled (among (unreaped s.ids.peers) text) text

-- the id, not yet waited for, that a variable names, where it is set (expect(1), spawn and wait)
abbrev pub said_by : Option (List ℕ) → Status → Result Unreaped Flaw
said_by (Some text) s = unreaped_named text s
said_by None s = Err (flaw.NotOpen None)

-- the id, not yet waited for, that the variable spawn_id names (expect(1), spawn and wait)
abbrev pub unreaped_current : Status → Result Unreaped Flaw
unreaped_current s = said_by (consulted s.scopes (codes "spawn_id")) s

-- the id, not yet waited for, of a name, or else the one in force (expect(1), wait)
abbrev pub unreaped_chosen : Option (List ℕ) → Status → Result Unreaped Flaw
unreaped_chosen (Some name) s = unreaped_named name s
unreaped_chosen None s = unreaped_current s

-- the same, where no word stands after the flag (expect(1), wait)
abbrev pub by_name : Option (List ℕ) × List (List ℕ) → Status → Result Unreaped Flaw
by_name (name, words) s =
    bind (no_more (codes "-i" ∷ []) (codes "wait") words) (λ _. unreaped_chosen name s)

-- the id, not yet waited for, that the words are about (expect(1), wait)
abbrev pub unreaped_said : List (List ℕ) → Status → Result Unreaped Flaw
unreaped_said args s = by_name (after_pair (codes "-i") args) s

-- how a process ended: with a status, or after a signal (expect(1), wait)
abbrev pub end_text : Option ℕ → List ℕ
end_text (Some status) = codes " 0 " ++ decimal status
end_text None = codes " 0 0 CHILDKILLED"

-- what is given of an id that was waited for: the number of its process, the id, and how it ended
-- (expect(1), wait)
abbrev pub report : ℕ → Id → Option ℕ → List ℕ
report pid i status = decimal pid ++ 32 ∷ id_text i.0 ++ end_text status

-- the id was waited for, and the command is over (expect(1), wait)
abbrev pub over : {n : ℕ} → Id → ℕ → Option ℕ → Exchange n
over i pid status = Edits (Reaps i) (gives (report pid i status))

-- the status with which a process ended, or none after a signal (expect(1), wait)
abbrev pub status_in : Reply → Option ℕ
status_in (said.Exited status) = status
status_in _ = None

-- a process is waited for; the wait for a connection is over at once (expect(1), wait)
abbrev pub waits_by : Kind → Id → Exchange 4
waits_by (Process pid) i =
    Performs (said.Reap i) tt (λ s reply. over i pid (status_in reply))
waits_by Socket i = over i 0 (Some 0)

-- wait ?-i id? (expect(1), wait)
abbrev pub wait : List (List ℕ) → Status → Result (Exchange 4) Flaw
wait args s = bind (unreaped_said args s) (λ u. Ok (waits_by u.kind u.id))

-- what follows the answer to the act of wait (expect(1), wait)
abbrev pub follows : Waits → Reply → Exchange 3
follows waits reply = over waits.id waits.pid (status_in reply)

-- the same, as a part of a run
abbrev pub next_of : Waits → Deed → Status → Reply → Course
next_of waits deed s reply = course (follows waits reply) s
