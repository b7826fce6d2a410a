use Rattle.std.proofs.Common.{ℕ, List, drop, map, ◌++◌}
use Rattle.std.specs.List.{AllByRecursion}
use Rattle.acts.specs.Deed.{reply_of}
use Rattle.records.specs.Record.{AreLines, IsTold}
use Rattle.records.specs.Sink.{Takes}
use Rattle.records.proofs.written.write_answers.Given as goal

abbrev pub invariant-loop-answer : goal.invariant-loop-answer
invariant-loop-answer g l =
    AllByRecursion IsTold (map reply_of (drop l.answer-index l.answers))
    × (done : List ℕ) × Takes g.S.Sink.adds g.S.Sink.has_failed l.fn.sink done l.sink
    × ((rest : List ℕ) → AreLines (map reply_of (drop l.answer-index l.answers)) rest
    → AreLines (map reply_of l.answers) (done ++ rest))
