use Rattle.std.proofs.Common.{codes, rules}
use Rattle.code.specs.Switch.{dashes_word, flag_word}
use Rattle.steps.proofs.Strings.{words_put}
use Rattle.steps.proofs.switch.words_of.Goals as goal

pub returns : goal.returns
returns g c =
    let options = c.args.options in
    words_put c.new-words.result.items c.put_text.new.words.items c.put_flag.new.words.items
    c.put_dashes.new.words.items c.push.new.self.items c.append.new.self.items
    (flag_word options.flag) (dashes_word options.dashes) c.args.after.now (codes "switch")
    c.args.text c.new-words.ensures.items (search rules) c.in_ok-put_flag.ensures
    c.in_ok-put_dashes.ensures (search rules) (search rules)
