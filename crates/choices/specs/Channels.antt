-- Open ids by the texts that name them.
use Rattle.std.specs.Prelude.{ℕ, Bool, false, List, [], ◌∷◌, ◌++◌, codes, decimal, Option, Some, None, if◌then◌else◌}
use Rattle.std.specs.Str.{bytes_eq}
use Rattle.acts.specs.Id.{id_text}
use Rattle.acts.specs.declared.id.Id.{Id}
use Rattle.choices.specs.Kinds.{Kind, Process, Socket}
use Rattle.choices.specs.Lines.{Line}

-- the open id that a text spells (expect(1), spawn)
abbrev pub named : List Line → List ℕ → Option Id
named [] text = None
named (l ∷ ls) text = if bytes_eq text (id_text l.id.0) then Some l.id else named ls text

-- `sock` and the number of the connection's id, as in sock4 (socket(n); the numbering is this
-- project's own)
abbrev pub channel_text : ℕ → List ℕ
channel_text n = codes "sock" ++ decimal n

-- the id of a connection, whose channel the text spells; a process has none (socket(n))
abbrev pub is_channel : List ℕ → Kind → Id → Bool
is_channel text (Process pid) i = false
is_channel text Socket i = bytes_eq text (channel_text i.0)

-- the open connection whose channel a text spells (socket(n))
abbrev pub connection : List Line → List ℕ → Option Id
connection [] text = None
connection (l ∷ ls) text = if is_channel text l.kind l.id then Some l.id else connection ls text
