use Rattle.std.proofs.Common.{◌∙◌, [], ◌∷◌, ap, sym}
use Rattle.pure.specs.Concat.{kept}
use Rattle.tcltext.specs.Joined.{joined}
use Rattle.pure.specs.Trim.{trim, white}
use Rattle.pure.proofs.Kept.{added}
use Rattle.pure.proofs.concat.concatenated.Goals as goal

pub loop-word-preserved : goal.loop-word-preserved
loop-word-preserved g c =
    let words = c.args.words.now in
    added words c.loop-word.word-index c.word-item.result c.trim-word.result.now
    c.loop-word-test.true c.word-item.is
    (c.trim-word.ensures ∙ ap (trim white) c.as_slice.ensures)
    c.loop-word.text.items (joined (32 ∷ []) (kept words)) c.loop-word.first
    c.push_next.new.text.items (sym c.if-is_empty.ensures) c.loop-word.invariant
    c.in_ok-push_next.ensures
