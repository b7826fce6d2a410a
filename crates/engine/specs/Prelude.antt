-- The names of what stands below that the worlds cite most, passed on from one place. Declares
-- nothing.
pub use Rattle.machine.specs.View.{ending_of, words_of}
pub use Rattle.machine.specs.declared.end.End.{End}
pub use Rattle.plan.specs.Answers.{Event, GoAlike, Over, Performs, events}
pub use Rattle.plan.specs.Last.{ClosesAt}
pub use Rattle.runs.specs.Ending.{Ending}
pub use Rattle.runs.specs.Run.{Began, Ran}
pub use Rattle.state.specs.Cut.{CutsOff}
pub use Rattle.state.specs.Dialogue.{is_no_more}
