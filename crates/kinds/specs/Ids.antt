-- The open ids that commands are about.
use Rattle.std.specs.Prelude.{ℕ, List, codes, Option, Some, None, Result, Ok, Err}
use Rattle.state.specs.Prelude.{Id, Flaw, Status, lines}
use Rattle.acts.specs.Flaw as flaw
use Rattle.choices.specs.Channels.{named, connection}
use Rattle.state.specs.Variables.{consulted}

-- an id that is open, or the error that the text spells none
abbrev pub spelled : Option Id → List ℕ → Result Id Flaw
spelled (Some id) text = Ok id
spelled None text = Err (flaw.NotOpen (Some text))

-- the open id that a text spells; a text that spells none is named in the error as it stands
-- (expect(1), spawn)
abbrev pub named_id : List ℕ → Status → Result Id Flaw
named_id text s = spelled (named (lines s) text) text

-- the open id that a variable names, where it is set (expect(1), spawn)
abbrev pub said_by : Option (List ℕ) → Status → Result Id Flaw
said_by None s = Err (flaw.NotOpen None)
said_by (Some text) s = named_id text s

-- the id in force, which the variable spawn_id names (expect(1), spawn)
abbrev pub current_id : Status → Result Id Flaw
current_id s = said_by (consulted s.scopes (codes "spawn_id")) s

-- the open id of a name, or else the one in force (expect(1), spawn)
abbrev pub chosen_id : Option (List ℕ) → Status → Result Id Flaw
chosen_id None s = current_id s
chosen_id (Some name) s = named_id name s

-- a connection that is open, or the error that the text spells the channel of none
abbrev pub joined : Option Id → List ℕ → Result Id Flaw
joined (Some id) text = Ok id
joined None text = Err (flaw.NoChannel text)

-- the open connection whose channel a text spells; a text that spells none is named in the error as
-- it stands (close(n); expect(1), spawn)
abbrev pub connection_id : List ℕ → Status → Result Id Flaw
connection_id text s = joined (connection (lines s) text) text
