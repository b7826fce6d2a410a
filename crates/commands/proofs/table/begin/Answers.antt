use Rattle.std.proofs.Common.{◌≡◌, ◌∙◌, ◌-◌, ◌∷◌, drop, length, take, Err, sym, ap, subst}
use Rattle.commands.proofs.Failed.{failure_shows}
use Rattle.commands.proofs.Words.{first_word, rest_words}
use Rattle.commands.specs.Began.{Comes}
use Rattle.commands.specs.Commands as definition
use Rattle.commands.specs.View.{next_of}
use Rattle.state.specs.Prelude.{Shows}
use Rattle.state.specs.declared.leaf.Leaf.TheVariants as leaf
use Rattle.commands.proofs.table.begin.Goals as goal

pub returns-in_ok-failed-in-Err-clause-begins : goal.returns-in_ok-failed-in-Err-clause-begins
returns-in_ok-failed-in-Err-clause-begins g c = λ s fits.
    let words = c.args.words.now in
    let name = c.as_slice.result.now in
    let args = take (length words - 1) (drop 1 words) in
    let course = definition.called (definition.named name) name args s in
    let outcome = c.in_ok-failed-in-Err.field-0 in
    let state = c.call_named.new.state in
    let split : words ≡ name ∷ args =
    first_word words c.name-item.result c.in-len1-up.len_at_least c.name-item.is
    ∙ ap (λ first. first ∷ drop 1 words) (sym c.as_slice.ensures)
    ∙ ap (λ rest. name ∷ rest) (rest_words words) in
    let comes = subst (λ r. Comes course r args s state) c.in-Err.is
    (c.call_named.ensures.comes s fits) in
    subst (λ ws. Shows (next_of {A = g.row.A.Denot}) (leaf.Has outcome) state
    (definition.command s ws)) (sym split)
    (failure_shows course state c.in-Err.why outcome comes c.in_ok-failed-in-Err.ensures)
