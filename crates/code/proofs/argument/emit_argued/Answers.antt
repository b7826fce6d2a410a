use Rattle.std.proofs.Common.{◌≡◌, rules, subst}
use Rattle.code.proofs.Arguments.{argued_block}
use Rattle.code.specs.Blocks.{ArgumentBlock}
use Rattle.tclparse.specs.Tree.{no_words}
use Rattle.tclparse.specs.View.{words_then}
use Rattle.code.proofs.argument.emit_argued.Goals as goal

pub returns : goal.returns
returns g c = λ text is.
    let named = c.push.new.self.items in
    let new = c.emit_argument.new.code.items in
    let own = c.args.own.now in
    let words : c.deref-2.result.now ≡ own.words.value.items = search rules in
    argued_block c.args.code.now.items named new own c.in_ok-name.name text is (search rules)
    (search rules)
    (subst (λ ws. ArgumentBlock named new (words_then ws no_words)) words
    c.in_ok-emit_argument.ensures)
