use Rattle.std.proofs.Common.{◌≡◌, IfSome, false, rules, subst}
use Rattle.code.proofs.Literals.{literal_word}
use Rattle.tclparse.specs.Tree.{bytes_then, no_parts}
use Rattle.tclparse.specs.View.{parts_then}
use Rattle.code.proofs.literal.literal_of.Goals as goal

pub returns : goal.returns
returns g c =
    let word = c.args.word.now in
    let plain : word.expands ≡ false = search rules in
    let same : c.deref-2.result.now ≡ word.parts.value.items = search rules in
    literal_word word c.text_of.result plain
    (subst (λ ps. IfSome c.text_of.result (λ t. parts_then ps no_parts ≡ bytes_then t.now no_parts))
    same c.text_of.ensures)
