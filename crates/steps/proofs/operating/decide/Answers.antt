use Rattle.std.proofs.Common.{◌≡◌, ◌∙◌, ◌++◌, [], ◌∷◌, ap, rules}
use Rattle.std.specs.Prelude.{reverse}
use Rattle.std.proofs.lemmas.List.{reverse-append}
use Rattle.meanings.specs.Meaning.{truth}
use Rattle.steps.specs.Moves.{jumping, with_operands}
use Rattle.steps.specs.Spot.{with_top}
use Rattle.steps.specs.View.{spot_of}
use Rattle.steps.proofs.Meanings.{decided}
use Rattle.steps.proofs.operating.decide.Goals as goal

pub returns-clause-does : goal.returns-clause-does
returns-clause-does g c = λ s.
    let spot = spot_of c.args.spot.now in
    let place = c.args.place in
    let old = c.args.spot.now.operands.items in
    let value = c.in_ok-value.value in
    let put : c.push.new.self.items ≡ old ++ value ∷ [] = search rules in
    let is : value ≡ truth c.args.holds = search rules in
    let same : c.args.known ≡ c.args.holds = search rules in
    c.jump.ensures.does s
    ∙ ap (λ os. jumping place (with_operands os spot) s)
    (ap reverse put ∙ reverse-append old (value ∷ []))
    ∙ ap (λ v. jumping place (with_top v spot) s) is
    ∙ decided c.args.known c.args.holds place spot s same
