use Rattle.std.proofs.Common.{Global, subst, inr}
use Rattle.worlds.specs.Program.{Performs}
use Rattle.explain.specs.Explained.{Ends}
use Rattle.explain.specs.Stories.{GoesOn}
use Rattle.explain.specs.View.{told_of}
use Rattle.explain.proofs.program.tell.Goals as goal

pub returns : goal.returns
returns g c = λ asked holds.
    let told = told_of c.perform_call-status.new.runner in
    inr (
      told,
      told_of c.end.new.self,
      c.perform_call-status.new.err,
      c.perform_call-status.result,
      subst (λ first. Performs (g.F.Folder.opens c.args.files.now) g.F.File.Reader.left
          g.F.File.Reader.reads g.F.Standard.Reader.left g.F.Standard.Reader.reads
          (g.F.Folder.makes c.args.files.now) (g.F.Folder.same c.args.files.now)
          g.O.Sink.adds g.O.Sink.has_failed g.E.Sink.adds g.E.Sink.has_failed
          (λ history. GoesOn g.S.Sink.adds g.S.Sink.has_failed first history told)
          Global asked (c.args.out.now, c.args.err.now)
          (c.perform_call-status.new.out, c.perform_call-status.new.err)
          c.perform_call-status.result)
          c.new-story.ensures (c.perform_call-status.ensures asked holds),
      c.end.ensures,
      subst (λ lost. Ends g.E.Sink.adds g.E.Sink.has_failed lost c.perform_call-status.result
          c.perform_call-status.new.err c.end_call.new.err c.end_call.result)
          c.failed.ensures c.end_call.ensures,
    )
