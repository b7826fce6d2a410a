use Rattle.std.proofs.Common.{◌∙◌, ap, subst}
use Rattle.std.specs.Prelude.{◌||◌}
use Rattle.recorders.specs.Recorder.{MayRecord, is_lost}
use Rattle.replays.specs.Recording.{Recorded, recorded_in}
use Rattle.replays.specs.Replay.{Replays}
use Rattle.worlds.specs.Play.{Finishes}
use Rattle.worlds.specs.Runs.{Heard, RunsRecorded}
use Rattle.worlds.specs.Status.{end_outcome}
use Rattle.worlds.proofs.Seen.{recorded_seen}
use Rattle.worlds.proofs.play.rerun_by.Goals as goal

pub returns : goal.returns
returns g c =
    let ran = c.run_recording-ended in
    let left = recorded_in ran.new.recorded in (
      left,
      ran.new.err,
      ran.result,
      subst (λ (begun : Recorded). RunsRecorded (Replays g.O.Sink.adds g.O.Sink.has_failed
          g.E.Sink.adds g.E.Sink.has_failed) g.S.Sink.adds g.S.Sink.has_failed
          (Heard g.X.Runner.told c.args.runner.now ran.new.runner) c.args.script.now
          c.args.args.now c.args.limits.ticks
          (begun, (c.args.out.now, c.args.err.now)) c.args.made.now
          (left, (ran.new.out, ran.new.err)) ran.new.made ran.result)
          c.of_entries-recording.ensures
          (recorded_seen _ (Replays g.O.Sink.adds g.O.Sink.has_failed g.E.Sink.adds
          g.E.Sink.has_failed) (λ state. (recorded_in state.0, state.1))
          (λ before act reply after step. step) g.S.Sink.adds g.S.Sink.has_failed
          (Heard g.X.Runner.told c.args.runner.now ran.new.runner) c.args.script.now
          c.args.args.now c.args.limits.ticks
          (c.of_entries-recording.result, (c.args.out.now, c.args.err.now))
          (ran.new.recorded, (ran.new.out, ran.new.err)) c.args.made.now ran.new.made
          ran.result ran.ensures),
      subst (λ outcome. Finishes g.O.Sink.adds g.O.Sink.has_failed g.E.Sink.adds
          g.E.Sink.has_failed outcome
          ran.new.err c.finish.new.err c.finish.result)
          (c.of_end.ensures ∙ ap (λ failed. end_outcome failed c.differs.result ran.result)
          c.any_failed-failed.ensures
          ∙ ap (λ differs. end_outcome (is_lost g.S.Sink.has_failed ran.new.made
          || (g.O.Sink.has_failed ran.new.out || g.E.Sink.has_failed ran.new.err))
          differs ran.result) c.differs.ensures)
          (c.finish.ensures.line, c.finish.ensures.status),
    )
