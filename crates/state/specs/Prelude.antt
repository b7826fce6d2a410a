-- The names that the definitions, clauses and proofs of commands cite most, passed on from one
-- place. Declares nothing.
pub use Rattle.memory.specs.declared.NoMemory.{NoMemory}
pub use Rattle.plan.specs.Plan.{Asks, Calls, Ends, Plan, Reads}
pub use Rattle.acts.specs.Deed.{Deed, Reply, deed_of, reply_of}
pub use Rattle.acts.specs.Flaw.{Flaw, flaw_of, text_of}
pub use Rattle.acts.specs.Raise.{Answers, Fails, Raises, bind}
pub use Rattle.acts.specs.declared.fault.Fault.{Fault}
pub use Rattle.acts.specs.declared.id.Id.{Id}
pub use Rattle.acts.specs.declared.raise.Raise.{Raise}
pub use Rattle.tclstate.specs.Scopes.{Scopes}
pub use Rattle.choices.specs.Peers.{Peer}
pub use Rattle.state.specs.Behaves.{Behaves, worth}
pub use Rattle.state.specs.Dialogue.{Course, Dialogue, ask, gives, inside, leaves, on_value, raises, stops, within}
pub use Rattle.state.specs.Leaf.{Shows}
pub use Rattle.state.specs.Outcome.{Again, AgainRunning, Break, Code, Continue, Error, Gives, Leaves, Outcome, Return, Stops}
pub use Rattle.state.specs.Piece.{IsTree, ListText, LoopTree, ScriptText, ScriptTree, TurnTree}
pub use Rattle.state.specs.Reaches.{Reaches, here}
pub use Rattle.state.specs.Status.{Status, lines, shut}
pub use Rattle.state.specs.View.{FitsState, outcome_of, raised}
