-- How the ends and the arguments of the code correspond to those of the definition.
use Rattle.std.specs.Prelude.{ℕ, List, map}
use Rattle.std.specs.declared.vec.Vec.{Vec}
use Rattle.machine.specs.declared.end.End.{End}
use Rattle.machine.specs.declared.end.End.TheVariants as end
use Rattle.runs.specs.Ending.{Ending, Exit, Error, Limit, WriterFailed, BadAnswer, NoMore}

-- the arguments of a run
abbrev pub words_of : {A : Type 0} → List (Vec ℕ A) → List (List ℕ)
words_of words = map (λ w. w.items) words

-- the ending that an end stands for
abbrev pub ending_of : {A : Type 0} → End A → Ending
ending_of (end.Exit status) = Exit status
ending_of (end.Error text) = Error text.items
ending_of end.Limit = Limit
ending_of end.WriterFailed = WriterFailed
ending_of (end.BadAnswer number) = BadAnswer number
ending_of end.NoMore = NoMore
