use Rattle.std.proofs.Common.{◌≡◌, ◌<◌, length, refl, sym, ap, rules, arith}
use Rattle.std.specs.Prelude.{codes}
use Rattle.acts.specs.Flaw as flaw
use Rattle.state.specs.Prelude.{text_of, raised, Leaves, Error}
use Rattle.nesting.specs.Eval.{next_of}
use Rattle.nesting.specs.Switch.{mode_of, on_arms}
use Rattle.nesting.proofs.Nestings.{nests_after, nests_from, on_ok, over}
use Rattle.nesting.proofs.Choosing.{words_arms, words_few, words_list}
use Rattle.state.proofs.Reaches.{same_reaches, then_reaches}
use Rattle.nesting.proofs.switch.on_words.Goals as goal

pub returns-in_ok-wrong_args-in-empty-clause-nests :
    goal.returns-in_ok-wrong_args-in-empty-clause-nests
returns-in_ok-wrong_args-in-empty-clause-nests g c = λ s fits.
    let few : length c.args.words.now < 2 = search (rules, arith) in
    over next_of c.args.state.now c.in_ok-wrong_args-in-empty.field-0
    (Leaves Error (text_of (flaw.WrongArgs (codes "switch")))) s _ fits
    c.in_ok-wrong_args-in-empty.ensures
    (words_few c.args.levels (mode_of c.args.mode) c.args.words.now s few)

pub returns-in-Ok-clause-nests : goal.returns-in-Ok-clause-nests
returns-in-Ok-clause-nests g c = λ s fits.
    let levels = c.args.levels in
    let mode = mode_of c.args.mode in
    let words = c.args.words.now in
    let text = c.as_slice-in-Ok.result.now in
    let two : length words ≡ 2 = search (rules, arith) in
    let came = rw c.in-Ok.is at c.in_ok-arms-in-len2.ensures in
    on_ok c.on_arms.result (λ n nests.
    nests_after next_of c.on_arms.new.state n _ _
    (then_reaches
    (same_reaches (words_list levels mode words s c.text-item.result c.list-item.result text
    c.as_slice.result.now two c.text-item.is c.list-item.is c.as_slice-in-Ok.ensures
    c.as_slice.ensures))
    (then_reaches (came s (λ arms. on_arms levels mode text arms s))
    (same_reaches (ap (λ arms. on_arms levels mode text arms s) (sym c.deref.ensures.value)))))
    nests)
    (c.on_arms.ensures.nests s fits)

pub returns-in_ok-raised-in-Err-clause-nests : goal.returns-in_ok-raised-in-Err-clause-nests
returns-in_ok-raised-in-Err-clause-nests g c = λ s fits.
    let levels = c.args.levels in
    let mode = mode_of c.args.mode in
    let words = c.args.words.now in
    let text = c.text-item.result in
    let two : length words ≡ 2 = search (rules, arith) in
    let came = rw c.in-Err.is at c.in_ok-arms-in-len2.ensures in
    nests_after next_of c.args.state.now _ _ _
    (then_reaches
    (same_reaches (words_list levels mode words s text c.list-item.result text
    c.as_slice.result.now two c.text-item.is c.list-item.is refl c.as_slice.ensures))
    (came s (λ arms. on_arms levels mode text arms s)))
    (over next_of c.args.state.now c.in_ok-raised-in-Err.field-0 (raised c.in-Err.fault) s _ fits
    c.in_ok-raised-in-Err.ensures refl)

pub returns-in-len1-up-clause-nests : goal.returns-in-len1-up-clause-nests
returns-in-len1-up-clause-nests g c = λ s fits.
    on_ok c.on_arms-in-len1-up.result (λ n nests.
    nests_from next_of c.on_arms-in-len1-up.new.state n _ _
    (words_arms c.args.levels (mode_of c.args.mode) c.args.words.now s c.text-item-2.result
    c.as_slice-in-len1-up.result.now c.in-len1-up.len_at_least c.text-item-2.is
    c.as_slice-in-len1-up.ensures)
    nests)
    (c.on_arms-in-len1-up.ensures.nests s fits)
