use Rattle.std.proofs.Common.{◌≡◌, [], ◌∷◌, refl, subst, sym, ◌∙◌, inl, inr}
use Rattle.std.specs.Prelude.{codes}
use Rattle.arguments.specs.Arguments.{texts}
use Rattle.arguments.proofs.Readings.{no_words}
use Rattle.worlds.specs.Lacking.{IsUnreadScript}
use Rattle.worlds.specs.Program.{IsLack, IsText}
use Rattle.worlds.specs.Runs.{Heard}
use Rattle.worlds.specs.declared.status.Outcome.TheVariants.{NoMemory}
use Rattle.worlds.proofs.Scripts.{argv_named, argv_own, runs_asked}
use Rattle.worlds.proofs.program.perform_call.Goals as goal

pub returns-in-Ok-own_name : goal.returns-in-Ok-own_name
returns-in-Ok-own_name g c = λ asked holds.
    inr (
      c.deref.result.now,
      subst (IsText _ asked) (sym c.deref.ensures.value) (c.in-Ok.ensures.text asked holds),
      c.deref-in-Ok-own_name.result.now,
      argv_own c.args.call.now.script.now asked.script _
          (sym c.is_empty.ensures ∙ c.if-is_empty.true) holds.script
          (subst (λ words. texts words ≡ codes "rx" ∷ [])
          (sym c.deref-in-Ok-own_name.ensures.value) c.in-Ok-own_name.ensures),
      runs_asked (g.F.Folder.opens c.args.files.now) g.F.File.Reader.left
          g.F.File.Reader.reads g.F.Standard.Reader.left g.F.Standard.Reader.reads
          (g.F.Folder.makes c.args.files.now) (g.F.Folder.same c.args.files.now)
          g.O.Sink.adds g.O.Sink.has_failed g.E.Sink.adds g.E.Sink.has_failed
          (Heard g.X.Runner.told c.args.runner.now c.run_script.new.runner)
          c.deref.result.now c.deref-in-Ok-own_name.result.now
          (c.args.out.now, c.args.err.now) (c.run_script.new.out, c.run_script.new.err)
          c.run_script.result c.args.call.now asked holds c.run_script.ensures,
    )

pub returns-then-is_empty : goal.returns-then-is_empty
returns-then-is_empty g c = λ asked holds.
    let nothing = no_words c.args.call.now.script.now
    (sym c.is_empty.ensures ∙ c.if-is_empty.true) in
    inl (
      NoMemory c.in-Err-own_name.refusal,
      subst (λ names. IsLack (IsUnreadScript (g.F.Folder.opens c.args.files.now)
          g.F.File.Reader.reads g.F.Standard.Reader.reads) names (NoMemory c.in-Err-own_name.refusal))
          (sym nothing ∙ holds.script) (c.in-Err-own_name.refusal, refl),
      (
        g.met.X.Runner.stays c.args.runner.now,
        (refl, (c.finish-in-Err-own_name.ensures.line, c.finish-in-Err-own_name.ensures.status)),
      ),
    )

pub returns-in-Err : goal.returns-in-Err
returns-in-Err g c = λ asked holds.
    inl (
      c.in-Err.outcome,
      subst (λ names. IsLack (IsUnreadScript (g.F.Folder.opens c.args.files.now)
          g.F.File.Reader.reads g.F.Standard.Reader.reads) names c.in-Err.outcome)
          holds.script c.in-Err.ensures.lack,
      (g.met.X.Runner.stays c.args.runner.now, (refl, (c.finish.ensures.line, c.finish.ensures.status))),
    )

pub returns : goal.returns
returns g c = λ asked holds.
    inr (
      c.deref-else-is_empty.result.now,
      subst (IsText _ asked) (sym c.deref-else-is_empty.ensures.value)
          (c.in-Ok.ensures.text asked holds),
      c.args.call.now.script.now,
      argv_named c.args.call.now.script.now asked.script
          (sym c.is_empty.ensures ∙ c.if-is_empty.false) holds.script,
      runs_asked (g.F.Folder.opens c.args.files.now) g.F.File.Reader.left
          g.F.File.Reader.reads g.F.Standard.Reader.left g.F.Standard.Reader.reads
          (g.F.Folder.makes c.args.files.now) (g.F.Folder.same c.args.files.now)
          g.O.Sink.adds g.O.Sink.has_failed g.E.Sink.adds g.E.Sink.has_failed
          (Heard g.X.Runner.told c.args.runner.now c.run_script-else-is_empty.new.runner)
          c.deref-else-is_empty.result.now c.args.call.now.script.now
          (c.args.out.now, c.args.err.now)
          (c.run_script-else-is_empty.new.out, c.run_script-else-is_empty.new.err)
          c.run_script-else-is_empty.result c.args.call.now asked holds
          c.run_script-else-is_empty.ensures,
    )
