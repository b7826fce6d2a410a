use Rattle.std.proofs.Common.{◌≡◌, ◌∙◌, None, Some, length, map, refl, rules, sym}
use Rattle.std.specs.Prelude.{reverse}
use Rattle.state.specs.View.{code_of}
use Rattle.steps.specs.Handling.{way_of}
use Rattle.steps.specs.View.{handler_of, spot_of}
use Rattle.steps.proofs.Handlers.{handled_alike, none_left, one_taken, passed_by, taken_by}
use Rattle.steps.proofs.handling.taker_of.Goals as goal

pub handlers-init : goal.handlers-init
handlers-init g c = (refl, λ value s. refl)

pub handlers-preserved : goal.handlers-preserved
handlers-preserved g c =
    let code = code_of c.args.code in
    let spot = spot_of c.handlers.spot in
    let old = c.handlers.spot.handlers.items in
    let new = c.pop.new.self.items in
    let h = c.in-Some.handler in
    let rest = reverse (map handler_of new) in
    let passes : way_of h.covers code ≡ None = search rules in (
      c.handlers.invariant.0,
      λ value s. handled_alike code value s rest rest spot
          ∙ sym (passed_by code value s (reverse (map handler_of old)) rest (handler_of h) spot
          (one_taken old new c.pop.result h c.pop.ensures.items c.in-Some.is) passes)
          ∙ c.handlers.invariant.1 value s,
    )

pub returns-in-Some-way_of-clause-takes : goal.returns-in-Some-way_of-clause-takes
returns-in-Some-way_of-clause-takes g c = λ value s.
    let code = code_of c.args.code in
    let old = c.handlers.spot.handlers.items in
    let new = c.pop.new.self.items in
    let h = c.in-Some.handler in
    let way = c.in-Some-way_of.way in
    let takes : way_of h.covers code ≡ Some way = search rules in
    taken_by code value s (reverse (map handler_of old)) (reverse (map handler_of new))
    (handler_of h) way (spot_of c.handlers.spot)
    (one_taken old new c.pop.result h c.pop.ensures.items c.in-Some.is) takes
    ∙ c.handlers.invariant.1 value s

pub returns-clause-takes : goal.returns-clause-takes
returns-clause-takes g c = λ value s.
    let old = c.handlers.spot.handlers.items in
    let none : length old ≡ 0 = search rules in
    none_left (code_of c.args.code) value s old (spot_of c.handlers.spot) none
    ∙ c.handlers.invariant.1 value s
