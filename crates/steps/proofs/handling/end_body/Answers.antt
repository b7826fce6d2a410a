use Rattle.std.proofs.Common.{◌≡◌, ◌∙◌, [], ◌∷◌, ◌++◌, map, rules, ap}
use Rattle.std.specs.Prelude.{reverse}
use Rattle.std.proofs.lemmas.List.{reverse-append}
use Rattle.steps.specs.Moves.{jumping}
use Rattle.steps.specs.Spot.{with_top}
use Rattle.steps.specs.View.{handler_of, spot_of}
use Rattle.steps.proofs.Handlers.{one_put}
use Rattle.steps.proofs.handling.end_body.Goals as goal

pub returns-clause-does : goal.returns-clause-does
returns-clause-does g c = λ s.
    let spot = spot_of c.args.spot.now in
    let end = c.args.end in
    let handlers = c.args.spot.now.handlers.items in
    let operands = c.args.spot.now.operands.items in
    let opened : c.push.new.self.items ≡ handlers ++ c.args.handler ∷ [] = search rules in
    let put : c.push-2.new.self.items ≡ operands ++ [] ∷ [] = search rules in
    c.jump.ensures.does s
    ∙ ap (λ os. jumping end
    (record spot { operands = os; handlers = reverse (map handler_of c.push.new.self.items) }) s)
    (ap reverse put ∙ reverse-append operands ([] ∷ []))
    ∙ ap (λ hs. jumping end (with_top [] (record spot { handlers = hs })) s)
    (one_put handlers c.push.new.self.items c.args.handler opened)
