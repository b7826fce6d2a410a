use Rattle.std.proofs.Common.{◌<◌, length, arith, rules, sym, subst}
use Rattle.code.specs.Switch.{AreArms, of_words}
use Rattle.code.proofs.arms.arms_of.Goals as goal

pub returns-in_ok-shared-in_default : goal.returns-in_ok-shared-in_default
returns-in_ok-shared-in_default g c =
    let after = c.args.after.now in
    let many : 1 < length after = search (rules, arith) in
    subst (λ ws. AreArms ws after) (sym c.in_ok-shared-in_default.ensures) (of_words many)
