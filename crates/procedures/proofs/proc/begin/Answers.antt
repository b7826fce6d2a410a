use Rattle.std.proofs.Common.{◌≡◌, ◌∙◌, length, sym, subst, rules, arith}
use Rattle.kinds.specs.Readings.{Leaves}
use Rattle.procedures.proofs.Named.{proc_three}
use Rattle.procedures.specs.Proc.{defines_named}
use Rattle.procedures.proofs.proc.begin.Goals as goal

pub returns-in-len3-clause-leaves : goal.returns-in-len3-clause-leaves
returns-in-len3-clause-leaves g c =
    let words = c.args.args.now in
    let procs = c.args.procs.now in
    let body = c.body-item.result in
    let three : length words ≡ 3 = search (rules, arith) in
    let named = proc_three words c.name-item.result c.formals-item.result body procs three
    c.name-item.is c.formals-item.is c.body-item.is
    ∙ (λ i. defines_named (sym c.as_slice.ensures i) (sym c.as_slice-in-len3.ensures i) body procs) in
    subst (λ r. Leaves r c.define_named.result c.define_named.new.procs) (sym named)
    c.define_named.ensures.leaves
