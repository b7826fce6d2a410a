use Rattle.std.proofs.Common.{◌≡◌, None, map, refl, ◌∙◌, ap, subst, inl, inr}
use Rattle.records.specs.Entry.{note_of}
use Rattle.records.specs.declared.record.RecordFault.TheVariants as fault
use Rattle.worlds.specs.Play.{Declines}
use Rattle.replays.specs.Recording.{whole}
use Rattle.worlds.specs.Runs.{unheard}
use Rattle.worlds.specs.Status.{end_outcome, fault_outcome}
use Rattle.worlds.proofs.Plays.{bad_line_told, entries_played, header_read, plays_alone}
use Rattle.worlds.proofs.play.replayed.Goals as goal

pub returns-in-Err-clause-ends : goal.returns-in-Err-clause-ends
returns-in-Err-clause-ends g c =
    inl (
      c.in-Err.fault,
      c.in-Err.ensures.fault,
      subst (λ outcome. Declines g.O.Sink.adds g.O.Sink.has_failed g.E.Sink.adds g.E.Sink.has_failed
          outcome
          (c.args.out.now, c.args.err.now) (c.args.out.now, c.finish.new.err) c.finish.result)
          c.of_fault.ensures
          (refl, (c.finish.ensures.line, c.finish.ensures.status)),
    )

pub returns-in-Err-clause-no_header : goal.returns-in-Err-clause-no_header
returns-in-Err-clause-no_header g c = λ first second.
    let is = c.in-Err.ensures.no_header first second in
    let e : c.in-Err.fault ≡ fault.Header = cc is in
    subst (λ outcome. Declines g.O.Sink.adds g.O.Sink.has_failed g.E.Sink.adds g.E.Sink.has_failed
    outcome
    (c.args.out.now, c.args.err.now) (c.args.out.now, c.finish.new.err) c.finish.result)
    (c.of_fault.ensures ∙ ap (fault_outcome c.args.name) e)
    (refl, (c.finish.ensures.line, c.finish.ensures.status))

pub returns-in-Err-clause-bad_line : goal.returns-in-Err-clause-bad_line
returns-in-Err-clause-bad_line g c =
    bad_line_told g.O.Sink.adds g.O.Sink.has_failed g.E.Sink.adds g.E.Sink.has_failed unheard
    c.args.script.now c.args.args.now c.args.limits.ticks c.args.name c.args.«record».now
    (c.args.out.now, c.args.err.now) (c.args.out.now, c.finish.new.err) c.finish.result
    (returns-in-Err-clause-ends g c)

pub returns-in-Err-clause-answers : goal.returns-in-Err-clause-answers
returns-in-Err-clause-answers g c =
    entries_played g.O.Sink.adds g.O.Sink.has_failed g.E.Sink.adds g.E.Sink.has_failed unheard
    c.args.script.now c.args.args.now c.args.limits.ticks c.args.name c.args.«record».now
    (c.args.out.now, c.args.err.now) (c.args.out.now, c.finish.new.err) c.finish.result
    (returns-in-Err-clause-ends g c)

pub returns-in-Ok-clause-ends : goal.returns-in-Ok-clause-ends
returns-in-Ok-clause-ends g c =
    inr (
      map note_of c.in-Ok.entries.items,
      c.in-Ok.ensures.read,
      plays_alone _ (λ failed left. end_outcome failed left.differs) g.O.Sink.adds
          g.O.Sink.has_failed g.E.Sink.adds g.E.Sink.has_failed _ _ unheard c.args.script.now
          c.args.args.now c.args.limits.ticks (whole (map note_of c.in-Ok.entries.items))
          (c.args.out.now, c.args.err.now) (c.rerun.new.out, c.rerun.new.err) c.rerun.result
          c.rerun.new.made c.rerun.ensures,
    )

pub returns-in-Ok-clause-bad_line : goal.returns-in-Ok-clause-bad_line
returns-in-Ok-clause-bad_line g c =
    bad_line_told g.O.Sink.adds g.O.Sink.has_failed g.E.Sink.adds g.E.Sink.has_failed unheard
    c.args.script.now c.args.args.now c.args.limits.ticks c.args.name c.args.«record».now
    (c.args.out.now, c.args.err.now) (c.rerun.new.out, c.rerun.new.err) c.rerun.result
    (returns-in-Ok-clause-ends g c)

pub returns-in-Ok-clause-answers : goal.returns-in-Ok-clause-answers
returns-in-Ok-clause-answers g c =
    entries_played g.O.Sink.adds g.O.Sink.has_failed g.E.Sink.adds g.E.Sink.has_failed unheard
    c.args.script.now c.args.args.now c.args.limits.ticks c.args.name c.args.«record».now
    (c.args.out.now, c.args.err.now) (c.rerun.new.out, c.rerun.new.err) c.rerun.result
    (returns-in-Ok-clause-ends g c)

pub returns-in-Ok-clause-no_header : goal.returns-in-Ok-clause-no_header
returns-in-Ok-clause-no_header g c = λ first second.
    absurd (header_read c.args.«record».now (map note_of c.in-Ok.entries.items) (first, second)
    c.in-Ok.ensures.read)
