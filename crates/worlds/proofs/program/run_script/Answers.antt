use Rattle.std.proofs.Common.{◌≡◌, Option, List, ℕ, Some, refl, sym, ap, subst, inl, inr}
use Rattle.std.specs.Option.{option_copied}
use Rattle.replays.specs.Reel.{reeled_in}
use Rattle.worlds.proofs.Lives.{lives_so}
use Rattle.worlds.specs.Program.{Runs}
use Rattle.worlds.specs.Runs.{Heard}
use Rattle.worlds.proofs.program.run_script.Goals as goal

pub returns-in-Ok : goal.returns-in-Ok
returns-in-Ok g c =
    let (lost, may_be, lives) =
    lives_so g.O.Sink.adds g.O.Sink.has_failed g.E.Sink.adds g.E.Sink.has_failed _ _
    (Heard g.X.Runner.told c.args.runner.now c.lived_by.new.runner) c.args.script.now c.args.args.now c.args.call.now.limits.ticks
    (option_copied c.args.call.now.made) (c.args.out.now, c.args.err.now)
    (c.lived_by.new.out, c.lived_by.new.err) c.in-Ok.made c.lived_by.new.made c.lived_by.result
    c.in-Ok.ensures.none c.lived_by.ensures in
    subst (λ replay. Runs (g.F.Folder.opens c.args.files.now) g.F.File.Reader.left
    g.F.File.Reader.reads g.F.Standard.Reader.left g.F.Standard.Reader.reads
    (g.F.Folder.makes c.args.files.now) (g.F.Folder.same c.args.files.now)
    g.O.Sink.adds g.O.Sink.has_failed g.E.Sink.adds g.E.Sink.has_failed
    (Heard g.X.Runner.told c.args.runner.now c.lived_by.new.runner)
    c.args.script.now c.args.args.now c.args.call.now.limits.ticks replay
    (option_copied c.args.call.now.made) (c.args.out.now, c.args.err.now)
    (c.lived_by.new.out, c.lived_by.new.err) c.lived_by.result)
    (sym (ap option_copied c.in_default.is)) (inr (c.in-Ok.ensures.made, lost, may_be, lives))

pub returns-in-Some-reel_in : goal.returns-in-Some-reel_in
returns-in-Some-reel_in g c =
    subst (λ replay. Runs (g.F.Folder.opens c.args.files.now) g.F.File.Reader.left
    g.F.File.Reader.reads g.F.Standard.Reader.left g.F.Standard.Reader.reads
    (g.F.Folder.makes c.args.files.now) (g.F.Folder.same c.args.files.now)
    g.O.Sink.adds g.O.Sink.has_failed g.E.Sink.adds g.E.Sink.has_failed
    (Heard g.X.Runner.told c.args.runner.now c.run_reel.new.runner)
    c.args.script.now c.args.args.now c.args.call.now.limits.ticks replay
    (option_copied c.args.call.now.made) (c.args.out.now, c.args.err.now)
    (c.run_reel.new.out, c.run_reel.new.err) c.run_reel.result)
    (sym (ap option_copied c.in-Some.is)) (
      c.in-Some.name,
      refl,
      inr (
        reeled_in c.in-Some-reel_in.reel,
        c.in-Some-reel_in.ensures,
        c.run_reel.ensures,
      ),
    )

pub returns-in-None : goal.returns-in-None
returns-in-None g c =
    subst (λ replay. Runs (g.F.Folder.opens c.args.files.now) g.F.File.Reader.left
    g.F.File.Reader.reads g.F.Standard.Reader.left g.F.Standard.Reader.reads
    (g.F.Folder.makes c.args.files.now) (g.F.Folder.same c.args.files.now)
    g.O.Sink.adds g.O.Sink.has_failed g.E.Sink.adds g.E.Sink.has_failed
    (Heard g.X.Runner.told c.args.runner.now c.run_record.new.runner)
    c.args.script.now c.args.args.now c.args.call.now.limits.ticks replay
    (option_copied c.args.call.now.made) (c.args.out.now, c.args.err.now)
    (c.run_record.new.out, c.run_record.new.err) c.run_record.result)
    (sym (ap option_copied c.in-Some.is))
    (c.in-Some.name, refl, inl c.run_record.ensures)

pub returns-in-Err : goal.returns-in-Err
returns-in-Err g c =
    subst (λ replay. Runs (g.F.Folder.opens c.args.files.now) g.F.File.Reader.left
    g.F.File.Reader.reads g.F.Standard.Reader.left g.F.Standard.Reader.reads
    (g.F.Folder.makes c.args.files.now) (g.F.Folder.same c.args.files.now)
    g.O.Sink.adds g.O.Sink.has_failed g.E.Sink.adds g.E.Sink.has_failed
    (Heard g.X.Runner.told c.args.runner.now c.args.runner.now)
    c.args.script.now c.args.args.now c.args.call.now.limits.ticks replay
    (option_copied c.args.call.now.made) (c.args.out.now, c.args.err.now)
    (c.args.out.now, c.finish.new.err) c.finish.result)
    (sym (ap option_copied c.in_default.is)) (
    inl (
      c.in-Err.outcome,
      c.in-Err.ensures.lack,
      (g.met.X.Runner.stays c.args.runner.now, (refl, (c.finish.ensures.line, c.finish.ensures.status))),
    )
    )
