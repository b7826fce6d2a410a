-- What the definition of a run keeps between acts.
use Rattle.std.specs.Prelude.{ℕ, List}
use Rattle.acts.specs.declared.id.Id.{Id}
use Rattle.choices.specs.Lines.{Line}
use Rattle.choices.specs.Peers.{Peer}
use Rattle.choices.specs.declared.log_state.LogState.{LogState}
use Rattle.state.specs.Ids as ids
use Rattle.state.specs.Ids.{Ids}
use Rattle.tclstate.specs.Procs.{Procs}
use Rattle.tclstate.specs.Scopes.{Scopes}

-- the variables, the procedures, the spawn ids, where bytes that arrive are written, the ticks left
pub record Status : Type 0 where
  pub scopes : Scopes
  pub procedures : Procs
  pub ids : Ids
  pub log : LogState
  pub left : ℕ

-- the lines of the open ids, as the table has them
abbrev pub lines : Status → List Line
lines s = ids.lines_of s.ids

-- an open id is changed
abbrev pub at_id : (Peer → Peer) → Id → Status → Status
at_id change i s = record s { ids = ids.with_peer change i s.ids }

-- an open id is closed, and its standing pairs go (expect(1), close)
abbrev pub shut : Id → Status → Status
shut i s = record s { ids = ids.without_id i s.ids }
