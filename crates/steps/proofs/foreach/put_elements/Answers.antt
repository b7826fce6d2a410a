use Rattle.std.proofs.Common.{◌≡◌, ◌∙◌, ◌++◌, [], ◌∷◌, length, sym, ap, rules}
use Rattle.std.specs.Prelude.{reverse}
use Rattle.std.proofs.lemmas.List.{length-reverse, reverse-append, reverse-reverse}
use Rattle.steps.specs.Moves.{jumping}
use Rattle.steps.specs.View.{spot_of}
use Rattle.steps.proofs.foreach.put_elements.Goals as goal

pub returns-clause-does : goal.returns-clause-does
returns-clause-does g c = λ s.
    let spot = spot_of c.args.spot.now in
    let place = c.args.place in
    let old = c.args.spot.now.operands.items in
    let marks = c.args.spot.now.marks.items in
    let elements = c.args.elements.items in
    let put : c.append.new.self.items ≡ old ++ reverse elements = search rules in
    let marked : c.push.new.self.items ≡ marks ++ length old ∷ [] = search rules in
    c.jump.ensures.does s
    ∙ ap (λ os. jumping place
    (record spot { operands = os; marks = reverse c.push.new.self.items }) s)
    (ap reverse put ∙ reverse-append old (reverse elements)
    ∙ ap (λ es. es ++ reverse old) (reverse-reverse elements))
    ∙ ap (λ ms. jumping place (record spot { operands = elements ++ reverse old; marks = ms }) s)
    (ap reverse marked ∙ reverse-append marks (length old ∷ [])
    ∙ ap (λ n. n ∷ reverse marks) (sym (length-reverse old)))
