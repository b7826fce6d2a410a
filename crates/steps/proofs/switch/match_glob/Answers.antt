use Rattle.std.proofs.Common.{◌≡◌, ◌-◌, ◌↔◌, IsTrue, Some, length, rules, sym, ap, subst}
use Rattle.std.specs.Prelude.{reverse, slice_get}
use Rattle.std.proofs.lemmas.List.{nil_from_length}
use Rattle.state.specs.Piece.{TestText}
use Rattle.steps.specs.Does.{Does, reads}
use Rattle.steps.specs.Moves.{on_top}
use Rattle.steps.specs.Spot.{Reads}
use Rattle.steps.specs.Switch.{going}
use Rattle.steps.specs.View.{did_of, spot_of}
use Rattle.steps.proofs.Does.{same_does}
use Rattle.steps.proofs.Strings.{last_on_top}
use Rattle.patterns.specs.Match.{Whole}
use Rattle.steps.proofs.switch.match_glob.Goals as goal

pub returns-in_default-clause-does : goal.returns-in_default-clause-does
returns-in_default-clause-does g c = λ s.
    let spot = spot_of c.args.spot.now in
    let items = c.args.pattern.now.items in
    let old = c.args.spot.now.operands.items in
    let none : length old ≡ 0 = search rules in
    same_does (sym (ap (λ os. on_top (reverse os) (λ text below.
    Reads (TestText items text) (λ it_does. going it_does c.args.taken c.args.other spot s)))
    (nil_from_length old none)))

pub returns-clause-does : goal.returns-clause-does
returns-clause-does g c = λ s.
    let spot = spot_of c.args.spot.now in
    let taken = c.args.taken in
    let other = c.args.other in
    let items = c.args.pattern.now.items in
    let old = c.args.spot.now.operands.items in
    let v = c.in-Some.text.now in
    let top : Some v ≡ slice_get old (length old - 1) = search rules in
    let says : IsTrue c.whole-takes.result ↔ Whole items v =
    subst (λ text. IsTrue c.whole-takes.result ↔ Whole items text) c.as_slice.ensures c.whole-takes.ensures in
    subst (λ os. Does (on_top os (λ text below.
    Reads (TestText items text) (λ it_does. going it_does taken other spot s)))
    (did_of c.go.result c.go.new.spot s))
    (sym (last_on_top old v top))
    (reads {text = TestText items v} c.whole-takes.result says (same_does (c.go.ensures.does s)))
