use Rattle.std.proofs.Common.{sym, subst, Global}
use Rattle.worlds.specs.Program.{Performs}
use Rattle.worlds.specs.Runs.{unheard}
use Rattle.worlds.proofs.program.perform.Goals as goal

pub returns-in-None-clause-call : goal.returns-in-None-clause-call
returns-in-None-clause-call g c = λ call is. absurd (c.in-None.ensures.none call is)

pub returns-in-Some-clause-usage : goal.returns-in-Some-clause-usage
returns-in-Some-clause-usage g c = λ none.
    let (call, one, holds) = c.in-Some.ensures.call in absurd (none call one.0)

pub returns-in-Some-clause-call : goal.returns-in-Some-clause-call
returns-in-Some-clause-call g c = λ other is.
    let (call, one, holds) = c.in-Some.ensures.call in
    subst (λ asked. Performs (g.F.Folder.opens c.args.files.now) g.F.File.Reader.left
    g.F.File.Reader.reads g.F.Standard.Reader.left g.F.Standard.Reader.reads
    (g.F.Folder.makes c.args.files.now) (g.F.Folder.same c.args.files.now)
    g.O.Sink.adds g.O.Sink.has_failed g.E.Sink.adds g.E.Sink.has_failed
    unheard Global asked (c.args.out.now, c.args.err.now)
    (c.perform_call.new.out, c.perform_call.new.err) c.perform_call.result) (sym (one.1 other is))
    (c.perform_call.ensures call holds)
