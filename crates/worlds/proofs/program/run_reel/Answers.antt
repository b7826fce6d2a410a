use Rattle.std.proofs.Common.{inl, inr, refl}
use Rattle.std.specs.Option.{option_copied}
use Rattle.replays.specs.Reel.{reeled_in}
use Rattle.worlds.specs.Runs.{Heard}
use Rattle.worlds.specs.Status.{reel_outcome}
use Rattle.worlds.proofs.Plays.{plays_so}
use Rattle.worlds.proofs.program.run_reel.Goals as goal

pub returns-in-Ok : goal.returns-in-Ok
returns-in-Ok g c =
    let (lost, may_be, plays) =
    plays_so _ (λ failed left. reel_outcome failed c.args.name left.halt) g.O.Sink.adds
    g.O.Sink.has_failed g.E.Sink.adds g.E.Sink.has_failed _ _
    (Heard g.X.Runner.told c.args.runner.now c.rerun_reel.new.runner) c.args.script.now c.args.args.now
    c.args.call.now.limits.ticks (reeled_in c.args.reel) (c.args.out.now, c.args.err.now)
    (c.rerun_reel.new.out, c.rerun_reel.new.err) c.rerun_reel.result
    (option_copied c.args.call.now.made) c.in-Ok.made c.rerun_reel.new.made c.in-Ok.ensures.none
    c.rerun_reel.ensures in
    inr (c.in-Ok.ensures.made, lost, may_be, plays)

pub returns-in-Err : goal.returns-in-Err
returns-in-Err g c =
    inl (
      c.in-Err.outcome,
      c.in-Err.ensures.lack,
      (g.met.X.Runner.stays c.args.runner.now, (refl, (c.finish.ensures.line, c.finish.ensures.status))),
    )
