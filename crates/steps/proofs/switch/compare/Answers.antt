use Rattle.std.proofs.Common.{◌≡◌, ◌∙◌, ◌-◌, Some, length, rules, sym, ap}
use Rattle.std.specs.Prelude.{slice_get}
use Rattle.std.specs.Str.{bytes_eq}
use Rattle.steps.specs.Moves.{on_top}
use Rattle.steps.specs.Switch.{going}
use Rattle.steps.specs.View.{spot_of}
use Rattle.steps.proofs.Strings.{last_on_top}
use Rattle.steps.proofs.switch.compare.Goals as goal

pub returns-clause-does : goal.returns-clause-does
returns-clause-does g c = λ s.
    let spot = spot_of c.args.spot.now in
    let taken = c.args.taken in
    let other = c.args.other in
    let pattern = c.args.pattern.now in
    let old = c.args.spot.now.operands.items in
    let v = c.in-Some.text.now in
    let top : Some v ≡ slice_get old (length old - 1) = search rules in
    let same : c.eq-takes.result ≡ bytes_eq pattern v = search rules in
    c.go.ensures.does s ∙ ap (λ b. going b taken other spot s) same
    ∙ sym (ap (λ os. on_top os (λ text below. going (bytes_eq pattern text) taken other spot s))
    (last_on_top old v top))
