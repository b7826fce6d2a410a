use Rattle.std.proofs.Common.{true, false, length, subst}
use Rattle.code.proofs.Built.{all_kept}
use Rattle.code.specs.Code.{WordsAt}
use Rattle.tclparse.specs.Tree.{no_words}
use Rattle.tclparse.specs.View.{words_then}
use Rattle.code.proofs.whole.argument_code.Goals as goal

pub returns : goal.returns
returns g c =
    let new = c.emit_argument.new.code.items in
    subst (λ old. WordsAt new true false 1 (length old) (words_then c.args.words.now no_words)
    (length new))
    c.new-code.ensures.items (c.in_ok-emit_argument.ensures.lies new (all_kept new))
