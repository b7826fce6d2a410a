use Rattle.std.proofs.Common.{◌≡◌, drop}
use Rattle.choices.specs.Channels.{connection}
use Rattle.choices.proofs.names.first_connection.Given as goal

-- none of the entries so far is the connection
abbrev pub invariant-loop-entry : goal.invariant-loop-entry
invariant-loop-entry g l = connection (drop l.entry-index l.entries) l.text ≡ connection l.entries l.text
