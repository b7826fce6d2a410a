-- The laws of all runs that the worlds stand on, passed on from one place. Declares nothing.
pub use Rattle.runs.proofs.AllRuns.{answers_decide, answers_lead}
pub use Rattle.runs.proofs.Cut.{nothing_follows}
