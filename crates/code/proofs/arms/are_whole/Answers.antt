use Rattle.std.proofs.Common.{◌≡◌, ◌-◌, true, length, drop, take, rules, sym, subst}
use Rattle.code.proofs.Choices.{none_whole, one_whole}
use Rattle.code.proofs.Fronts.{two_first}
use Rattle.code.specs.Switch.{AreWhole}
use Rattle.code.proofs.arms.are_whole.Goals as goal

pub arms-init : goal.arms-init
arms-init g c = λ whole. whole

pub arms-preserved : goal.arms-preserved
arms-preserved g c = λ whole.
    let rest = c.arms.rest.now in
    let globs = c.args.globs in
    let pattern = c.pattern-item.result in
    let body = c.body-item.result in
    let more = take (length rest - 2) (drop 2 rest) in
    let fits : c.is_short.result ≡ true = search rules in
    let has : c.has_body.result ≡ true = search rules in
    c.arms.invariant
    (subst (λ arms. AreWhole globs arms)
    (sym (two_first rest pattern body c.in-len2-up.len_at_least c.pattern-item.is c.body-item.is))
    (one_whole globs pattern body more (c.is_short.ensures fits) (c.has_body.ensures has) whole))

pub returns : goal.returns
returns g c = λ yes.
    let none : length c.arms.rest.now ≡ 0 = search rules in
    c.arms.invariant (none_whole c.args.globs c.arms.rest.now none)
