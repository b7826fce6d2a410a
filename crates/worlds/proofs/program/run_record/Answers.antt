use Rattle.std.proofs.Common.{Err, map, refl, sym, ap, subst, inl, inr}
use Rattle.records.specs.Entry.{note_of}
use Rattle.worlds.specs.Play.{Declines}
use Rattle.worlds.specs.Texts.{IsTextOf}
use Rattle.worlds.proofs.program.run_record.Goals as goal

pub returns-in-Ok-read_entries : goal.returns-in-Ok-read_entries
returns-in-Ok-read_entries g c =
    inr (
      c.deref.result.now,
      subst (IsTextOf (g.F.Folder.opens c.args.files.now) g.F.File.Reader.left c.args.name.now)
          (sym c.deref.ensures.value) c.in-Ok.ensures.text,
      inr (
        map note_of c.in-Ok-read_entries.entries.items,
        c.in-Ok-read_entries.ensures.read,
        c.run_entries.ensures,
      ),
    )

pub returns : goal.returns
returns g c =
    inr (
      c.deref.result.now,
      subst (IsTextOf (g.F.Folder.opens c.args.files.now) g.F.File.Reader.left c.args.name.now)
          (sym c.deref.ensures.value) c.in-Ok.ensures.text,
      inl (
        g.met.X.Runner.stays c.args.runner.now,
        (
          c.in-Err-read_entries.fault,
          c.in-Err-read_entries.ensures.fault,
          subst (λ outcome. Declines g.O.Sink.adds g.O.Sink.has_failed g.E.Sink.adds
              g.E.Sink.has_failed outcome (c.args.out.now, c.args.err.now)
              (c.args.out.now, c.finish-in-Err-read_entries.new.err)
              c.finish-in-Err-read_entries.result)
              c.of_fault.ensures (
                refl,
                (
                  c.finish-in-Err-read_entries.ensures.line,
                  c.finish-in-Err-read_entries.ensures.status,
                ),
              ),
        ),
      ),
    )

pub returns-in-Err : goal.returns-in-Err
returns-in-Err g c =
    inl (
      c.of_file.result,
      (
        c.args.name,
        refl,
        c.in-Err.fault,
        c.of_file.ensures,
        λ is. c.in-Err.ensures.refused (ap Err is),
      ),
      (g.met.X.Runner.stays c.args.runner.now, (refl, (c.finish.ensures.line, c.finish.ensures.status))),
    )
