use Rattle.std.proofs.Common.{◌≡◌, None, IfSome, to_z, of_z, w64, option_copied, ap, subst, rules}
use Rattle.tclstate.specs.Scopes.{read}
use Rattle.tclstate.specs.Sum.{HasSum}
use Rattle.variables.proofs.Sums.{sum_added}
use Rattle.variables.proofs.incr.added.Goals as goal

pub returns-in-None-clause-added : goal.returns-in-None-clause-added
returns-in-None-clause-added g c =
    let same : to_z w64 (of_z w64 c.in_ok-by.by) ≡ c.in_ok-by.by = search rules in
    let is_sum = subst (λ k. IfSome c.add.result
    (λ sum. HasSum k sum (read c.args.scopes.now c.args.name.now None))) same c.add.ensures.added in
    rw (ap option_copied c.in-None.is)
    (sum_added c.args.name.now (option_copied c.args.by) c.in_ok-by.by c.args.scopes.now
    c.add.new.self c.in_ok-by.ensures c.add.result is_sum c.add.ensures.written)
