use Rattle.std.proofs.Common.{◌∷◌, ◌∙◌, ◌+◌, [], ap, sym, take, drop, add-one, ℕ, List}
use Rattle.std.proofs.lemmas.List.{take_rest}
use Rattle.patterns.specs.Glob.{signs, a_set}
use Rattle.patterns.proofs.Signs.{signs_in_set-closed, signs_in_set-open}
use Rattle.patterns.proofs.read.next_set.Goals as goal

pub returns-in-Some-clause-sign : goal.returns-in-Some-clause-sign
returns-in-Some-clause-sign c =
    let text = c.args.text.now in
    let end = c.in-Some.end in
    signs_in_set-closed [] text end c.in-Some.ensures.0.high c.in-Some.ensures.0.before
    c.in-Some.ensures.1
    ∙ ap (λ (n : ℕ). a_set (take end text) ∷ signs (drop n text)) (sym (add-one end))
    ∙ ap (λ (x : List ℕ). a_set (take end text) ∷ signs x) (sym (take_rest text (end + 1)))

pub returns-in-None-clause-sign : goal.returns-in-None-clause-sign
returns-in-None-clause-sign c = signs_in_set-open [] c.args.text.now c.in-None.ensures
