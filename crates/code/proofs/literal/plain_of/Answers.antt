use Rattle.std.proofs.Common.{◌≡◌, false, rules}
use Rattle.code.proofs.Literals.{plain_word}
use Rattle.code.proofs.literal.plain_of.Goals as goal

pub returns-then-not-word : goal.returns-then-not-word
returns-then-not-word g c = λ ws are.
    let word = c.word-item.result in
    let plain : word.expands ≡ false = search rules in
    let same : c.deref-then-not-word.result.now ≡ word.parts.value.items = search rules in
    plain_word c.args.words.now word c.deref-then-not-word.result.now ws c.in-len1-up.len_at_least
    c.word-item.is plain same are
