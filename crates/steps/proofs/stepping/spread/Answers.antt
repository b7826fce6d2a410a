use Rattle.std.proofs.Common.{◌≡◌, rules, sym, subst}
use Rattle.std.specs.Prelude.{reverse}
use Rattle.state.specs.Piece.{ListText}
use Rattle.steps.specs.Does.{Does}
use Rattle.steps.specs.Machine.{spread, spreading}
use Rattle.steps.specs.Moves.{on_top, with_operands}
use Rattle.steps.specs.Spot.{Reads, Stuck}
use Rattle.steps.specs.View.{did_of, spot_of}
use Rattle.steps.proofs.Does.{one_on_top, same_does}
use Rattle.steps.proofs.stepping.spread.Goals as goal

pub returns-in_default-clause-does : goal.returns-in_default-clause-does
returns-in_default-clause-does g c = λ s.
    let stuck : Stuck ≡ spreading (spot_of c.args.spot.now) s = search rules in
    same_does stuck

pub returns-clause-does : goal.returns-clause-does
returns-clause-does g c = λ s.
    let spot = spot_of c.args.spot.now in
    let old = c.args.spot.now.operands.items in
    let new = c.pop.new.self.items in
    let v = c.in-Some.text in
    let did = did_of c.in_ok-spread_text.field-0 c.spread_text.new.spot s in
    subst (λ os. Does (on_top os (λ text below.
    Reads (ListText text) (spread (with_operands below spot) s))) did)
    (sym (one_on_top old new c.pop.result v c.pop.ensures.items c.in-Some.is))
    (subst (λ text. Does (Reads (ListText text) (spread (with_operands (reverse new) spot) s)) did)
    c.as_slice.ensures (c.in_ok-spread_text.ensures.does s))
