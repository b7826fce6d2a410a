use Rattle.std.proofs.Common.{◌∙◌, None, ap, subst}
use Rattle.worlds.specs.Play.{Finishes}
use Rattle.worlds.specs.Status.{end_outcome}
use Rattle.worlds.proofs.lived.lived_by.Goals as goal

pub returns : goal.returns
returns g c = (
  c.run_live-ended.new.err,
  c.run_live-ended.result,
  c.run_live-ended.ensures,
  subst (λ outcome. Finishes g.O.Sink.adds g.O.Sink.has_failed g.E.Sink.adds
      g.E.Sink.has_failed outcome c.run_live-ended.new.err
      c.finish.new.err c.finish.result)
      (c.of_end.ensures
      ∙ ap (λ failed. end_outcome failed None c.run_live-ended.result) c.is_lost.ensures)
      (c.finish.ensures.line, c.finish.ensures.status),
)
