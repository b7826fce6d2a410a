use Rattle.std.proofs.Common.{◌∙◌, ℕ, List, Option, Some, None, Global, refl, sym, ap, subst, inl, inr}
use Rattle.std.specs.Option.{option_copied}
use Rattle.arguments.specs.Arguments.{Call, texts}
use Rattle.teller.specs.declared.telling.Detail.{Detail}
use Rattle.worlds.specs.Lacking.{IsOther, IsOtherRecord}
use Rattle.explain.specs.Explained.{Explains}
use Rattle.explain.proofs.program.explain.Goals as goal

pub returns-in_default-clause-story : goal.returns-in_default-clause-story
returns-in_default-clause-story g c = λ file detail call asks.
    absurd (c.in_default.ensures.none file detail call asks)

pub returns-in_default-file-clause-usage : goal.returns-in_default-file-clause-usage
returns-in_default-file-clause-usage g c = λ none.
    let (call, one, holds) = c.in-Some.ensures.asks in
    absurd (none (option_copied c.in-Some.asked.file) c.in-Some.asked.detail call one.0)

pub returns-in_default-file-clause-story : goal.returns-in_default-file-clause-story
returns-in_default-file-clause-story g c = λ file detail call asks.
    let (said, one, holds) = c.in-Some.ensures.asks in
    let (same_file, same_detail, same_call) = one.1 file detail call asks in
    let explained : Option (List ℕ) → Detail → Call → Type 0 =
    λ named much asked. Explains (g.F.Folder.opens c.args.files.now) g.F.File.Reader.left
    g.F.File.Reader.reads g.F.Standard.Reader.left g.F.Standard.Reader.reads
    (g.F.Folder.makes c.args.files.now) (g.F.Folder.same c.args.files.now)
    g.O.Sink.adds g.O.Sink.has_failed g.E.Sink.adds g.E.Sink.has_failed g.F.Made.Write.contents
    g.T.Sink.adds g.T.Sink.has_failed c.args.told Global named much asked
    (c.args.out.now, c.args.err.now) (c.tell.new.out, c.tell.new.err) c.tell.result in
    subst (λ named. explained named detail call)
    (sym (same_file ∙ ap option_copied c.in_default-file.is))
    (subst (λ much. explained None much call) (sym same_detail)
    (subst (explained None c.in-Some.asked.detail) (sym same_call) (c.tell.ensures said holds)))

pub returns-in-Some-story_file-clause-usage : goal.returns-in-Some-story_file-clause-usage
returns-in-Some-story_file-clause-usage g c = λ none.
    let (call, one, holds) = c.in-Some.ensures.asks in
    absurd (none (option_copied c.in-Some.asked.file) c.in-Some.asked.detail call one.0)

pub returns-in-Some-story_file-clause-story : goal.returns-in-Some-story_file-clause-story
returns-in-Some-story_file-clause-story g c = λ file detail call asks.
    let (said, one, holds) = c.in-Some.ensures.asks in
    let (same_file, same_detail, same_call) = one.1 file detail call asks in
    let name = c.in-Some-file.name.now in
    let explained : Option (List ℕ) → Detail → Call → Type 0 =
    λ named much asked. Explains (g.F.Folder.opens c.args.files.now) g.F.File.Reader.left
    g.F.File.Reader.reads g.F.Standard.Reader.left g.F.Standard.Reader.reads
    (g.F.Folder.makes c.args.files.now) (g.F.Folder.same c.args.files.now)
    g.O.Sink.adds g.O.Sink.has_failed g.E.Sink.adds g.E.Sink.has_failed g.F.Made.Write.contents
    g.T.Sink.adds g.T.Sink.has_failed c.args.told Global named much asked
    (c.args.out.now, c.args.err.now) (
      c.tell-in-Some-story_file.new.out,
      c.tell-in-Some-story_file.new.err,
    ) c.tell-in-Some-story_file.result in
    subst (λ named. explained named detail call)
    (sym (same_file ∙ ap option_copied c.in-Some-file.is))
    (subst (λ much. explained (Some name) much call) (sym same_detail)
    (subst (explained (Some name) c.in-Some.asked.detail) (sym same_call) (
    inr (
      c.in-Some-story_file.file,
      (
        c.in-Some-story_file.ensures.made,
        subst (λ script. IsOther (g.F.Folder.same c.args.files.now) script said.replay name)
            holds.script
            (subst (λ replay. IsOther (g.F.Folder.same c.args.files.now)
            (texts c.in-Some.asked.call.script.now) replay name) holds.replay
            c.in-Some-story_file.ensures.other),
        subst (λ made. IsOtherRecord (g.F.Folder.same c.args.files.now) made name) holds.made
            c.in-Some-story_file.ensures.apart,
      ),
      c.new.result,
      (c.new.ensures.writer, c.new.ensures.failed),
      c.tell-in-Some-story_file.ensures said holds,
    )
    )))

pub returns-clause-usage : goal.returns-clause-usage
returns-clause-usage g c = λ none.
    let (call, one, holds) = c.in-Some.ensures.asks in
    absurd (none (option_copied c.in-Some.asked.file) c.in-Some.asked.detail call one.0)

pub returns-clause-story : goal.returns-clause-story
returns-clause-story g c = λ file detail call asks.
    let (said, one, holds) = c.in-Some.ensures.asks in
    let (same_file, same_detail, same_call) = one.1 file detail call asks in
    let name = c.in-Some-file.name.now in
    let explained : Option (List ℕ) → Detail → Call → Type 0 =
    λ named much asked. Explains (g.F.Folder.opens c.args.files.now) g.F.File.Reader.left
    g.F.File.Reader.reads g.F.Standard.Reader.left g.F.Standard.Reader.reads
    (g.F.Folder.makes c.args.files.now) (g.F.Folder.same c.args.files.now)
    g.O.Sink.adds g.O.Sink.has_failed g.E.Sink.adds g.E.Sink.has_failed g.F.Made.Write.contents
    g.T.Sink.adds g.T.Sink.has_failed c.args.told Global named much asked
    (c.args.out.now, c.args.err.now) (c.args.out.now, c.finish.new.err) c.finish.result in
    subst (λ named. explained named detail call)
    (sym (same_file ∙ ap option_copied c.in-Some-file.is))
    (subst (λ much. explained (Some name) much call) (sym same_detail)
    (subst (explained (Some name) c.in-Some.asked.detail) (sym same_call) (
    inl (
      c.in-None.ensures.none,
      (
        c.in-Some-file.name,
        refl,
        (refl, (c.finish.ensures.line, c.finish.ensures.status)),
      ),
    )
    )))
