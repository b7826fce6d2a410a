use Rattle.std.proofs.Common.{◌≡◌, ◌++◌, [], ◌∷◌, drop, arith, rules}
use Rattle.std.proofs.Math.ListN.{drop_of_length-le}
use Rattle.code.proofs.Texts.{all_texts, one_text}
use Rattle.code.proofs.literal.texts_of.Goals as goal

pub loop-word-preserved : goal.loop-word-preserved
loop-word-preserved g c =
    let words = c.args.words.now in
    let n = c.loop-word.word-index in
    let word = c.word-item.result in
    let texts = c.loop-word.texts.items in
    let text = c.in-Some.text.now in
    let put : c.push.new.self.items ≡ texts ++ text ∷ [] = search rules in
    one_text words n word texts c.push.new.self.items text c.loop-word-test.true c.word-item.is
    c.in-Some.ensures put c.loop-word.invariant

pub returns : goal.returns
returns g c =
    let words = c.args.words.now in
    let n = c.loop-word.word-index in
    all_texts words (drop n words) c.loop-word.texts.items
    (drop_of_length-le words {i = n} (omega (arith, c.loop-word-test.false))) c.loop-word.invariant
