use Rattle.std.proofs.Common.{◌≡◌, ◌+◌, ℕ, drop, subst, arith}
use Rattle.searches.specs.Vain.{ArePassed}
use Rattle.searches.proofs.Vains.{are_gone}
use Rattle.searches.proofs.vain.forget.Goals as goal

pub returns-in-Some : goal.returns-in-Some
returns-in-Some g c = λ bytes inside are.
    let gone = c.args.gone.now in
    let count = c.args.count in
    let vains = c.args.vains.now.items in
    let all : gone + count ≡ c.in-Some.all = omega (arith, c.in-Some.ensures) in
    subst (λ (n : ℕ). ArePassed n (drop count bytes) vains) all
    (are_gone gone count bytes vains inside are)
