use Rattle.std.proofs.Common.{true, length, refl, rules, subst}
use Rattle.code.specs.Blocks.{ValuesBlock}
use Rattle.code.proofs.Commands.{argument_block}
use Rattle.tclparse.specs.Tree.{no_words}
use Rattle.tclparse.specs.View.{words_then}
use Rattle.code.proofs.emit.emit_argument.Goals as goal

pub returns : goal.returns
returns g c =
    let words = c.args.words.now in
    argument_block (length words) c.args.code.now.items c.push.new.self.items
    c.emit_values.new.code.items c.push-2.new.self.items (words_then words no_words) (search rules)
    (subst (λ counts. ValuesBlock true counts (length words) c.push.new.self.items
    c.emit_values.new.code.items (words_then words no_words))
    (c.in_ok-emit_values.ensures.stays refl) c.in_ok-emit_values.ensures.block)
    (search rules)
