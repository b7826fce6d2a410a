use Rattle.std.proofs.Common.{◌≡◌, false, true, [], ◌∷◌, codes, length, rules, subst}
use Rattle.std.proofs.lemmas.Slice.Eq.{bytes_eq-Decides}
use Rattle.std.specs.Str.{bytes_eq}
use Rattle.code.proofs.Literals.{no_literals}
use Rattle.tclparse.specs.Tree.{bytes_then, no_parts, no_words, word, literals}
use Rattle.tclparse.specs.View.{parts_then, words_then}
use Rattle.code.proofs.each.each_words.Goals as goal

pub returns-then-is_empty : goal.returns-then-is_empty
returns-then-is_empty g c =
    let name = c.in_ok-name.name in
    let variables = c.in_ok-variables.variables.text.now in
    let list = parts_then c.in_ok-list.list.parts.now no_parts in
    let body = c.in_ok-body.body in
    let last = literals (body.text.now ∷ []) in
    let between = word false (bytes_then variables no_parts) (word false list last) in
    let same : bytes_eq name.text.now (codes "foreach") ≡ true = search rules in
    let none : length body.rest.now ≡ 0 = search rules in
    subst (λ n. words_then c.args.words.now no_words ≡ word false (bytes_then n no_parts) between)
    ((bytes_eq-Decides name.text.now (codes "foreach")).0 same)
    (c.in_ok-name.ensures between
    (c.in_ok-variables.ensures (word false list last)
    (c.in_ok-list.ensures last
    (c.in_ok-body.ensures (literals []) (no_literals body.rest.now none)))))
