use Rattle.std.proofs.Common.{◌∙◌, ap, subst}
use Rattle.std.specs.Prelude.{◌||◌}
use Rattle.recorders.specs.Recorder.{is_lost}
use Rattle.replays.specs.Reel.{Reels, reeled_in}
use Rattle.replays.specs.Replay.{ReplaysBy}
use Rattle.worlds.specs.Play.{Finishes}
use Rattle.worlds.specs.Status.{reel_outcome}
use Rattle.worlds.specs.Runs.{Heard}
use Rattle.worlds.proofs.Seen.{recorded_seen}
use Rattle.worlds.proofs.play.rerun_reel.Goals as goal

pub returns : goal.returns
returns g c =
    let ran = c.run_recording-ended in (
      reeled_in ran.new.recorded,
      ran.new.err,
      ran.result,
      recorded_seen _ (ReplaysBy g.O.Sink.adds g.O.Sink.has_failed g.E.Sink.adds
          g.E.Sink.has_failed (Reels g.F.Source.gives g.F.Source.gives_up g.F.Source.most))
          (λ state. (reeled_in state.0, state.1)) (λ before act reply after step. step)
          g.S.Sink.adds g.S.Sink.has_failed (Heard g.X.Runner.told c.args.runner.now ran.new.runner)
          c.args.script.now c.args.args.now
          c.args.limits.ticks (c.args.reel, (c.args.out.now, c.args.err.now))
          (ran.new.recorded, (ran.new.out, ran.new.err)) c.args.made.now ran.new.made
          ran.result ran.ensures,
      subst (λ outcome. Finishes g.O.Sink.adds g.O.Sink.has_failed g.E.Sink.adds
          g.E.Sink.has_failed outcome
          ran.new.err c.finish.new.err c.finish.result)
          (c.of_reel.ensures
          ∙ ap (λ failed. reel_outcome failed c.args.name c.halt.result ran.result)
          c.any_failed-failed.ensures
          ∙ ap (λ halt. reel_outcome (is_lost g.S.Sink.has_failed ran.new.made
          || (g.O.Sink.has_failed ran.new.out || g.E.Sink.has_failed ran.new.err))
          c.args.name halt ran.result) c.halt.ensures)
          (c.finish.ensures.line, c.finish.ensures.status),
    )
