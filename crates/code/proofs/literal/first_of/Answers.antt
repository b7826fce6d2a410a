use Rattle.code.proofs.Literals.{first_word}
use Rattle.code.proofs.literal.first_of.Goals as goal

pub returns : goal.returns
returns g c = λ ws are.
    first_word c.args.words.now c.word-item.result c.in_ok-text.text.now ws
    c.in-len1-up.len_at_least c.word-item.is c.in_ok-text.ensures are
