-- The ends of a run, passed on from the machine. Declares nothing.
pub use Rattle.machine.specs.declared.end.End.TheVariants.{BadAnswer, Error, Exit, Limit, NoMore, WriterFailed}
