use Rattle.std.proofs.Common.{[], refl}
use Rattle.records.proofs.Sinks.{Takes-none}
use Rattle.explain.specs.Stories.{rests}
use Rattle.explain.specs.View.{told_of}
use Rattle.explain.proofs.Stories.{goes_on_by}
use Rattle.explain.proofs.watched.Story.note.Goals as goal

pub returns-then-is_err : goal.returns-then-is_err
returns-then-is_err g c =
    goes_on_by g.S.Sink.adds g.S.Sink.has_failed (told_of c.args.self.now) _ [] refl refl
    (λ lost. refl) (Takes-none g.S.Sink.adds g.S.Sink.has_failed c.args.self.now.sink)

pub returns-else-is_err : goal.returns-else-is_err
returns-else-is_err g c = rests g.S.Sink.adds g.S.Sink.has_failed (told_of c.args.self.now)
