use Rattle.std.proofs.Common.{◌≡◌, drop}
use Rattle.choices.specs.Channels.{named}
use Rattle.choices.proofs.names.first_named.Given as goal

-- none of the entries so far has the id that the text spells
abbrev pub invariant-loop-entry : goal.invariant-loop-entry
invariant-loop-entry g l = named (drop l.entry-index l.entries) l.text ≡ named l.entries l.text
