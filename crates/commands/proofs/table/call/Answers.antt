use Rattle.std.proofs.Common.{Ok, Err, rules, subst, sym}
use Rattle.commands.specs.Locals as local
use Rattle.commands.specs.Settings as setting
use Rattle.commands.specs.View.{next_of}
use Rattle.kinds.proofs.Comes.{meant_fails, meant_shows, sets_shows}
use Rattle.kinds.proofs.Locals.{left_fails, left_shows}
use Rattle.kinds.specs.Answers.{Comes}
use Rattle.kinds.specs.Exchange.{talks}
use Rattle.kinds.specs.Kinds.{definings, locals, with_procedures, with_scopes}
use Rattle.kinds.specs.Readings.{Leaves}
use Rattle.procedures.specs.Proc.{proc}
use Rattle.pure.specs.Pure.{says}
use Rattle.state.proofs.Fits.{procedures_fit, scopes_fit}
use Rattle.state.specs.Leaf.{Shows}
use Rattle.state.specs.Meant.{meant}
use Rattle.state.specs.declared.leaf.Leaf.TheVariants as leaf
use Rattle.commands.proofs.table.call.Goals as goal

pub returns-in_ok-call-in-Local-clause-comes : goal.returns-in_ok-call-in-Local-clause-comes
returns-in_ok-call-in-Local-clause-comes g c = λ s fits.
    let own = c.in-Local.own in
    let new = c.call.new.scopes in
    let value = c.in_ok-call-in-Local.field-0 in
    let args = c.args.args.now in
    let state = record c.args.state.now { scopes = new } in
    let shown : Shows (next_of {A = g.row.A.Denot}) (leaf.Has (Ok value)) state
    (locals (local.does own args s.scopes) s) =
    left_shows with_scopes next_of state s new (scopes_fit c.args.state.now s fits new)
    (local.does own args s.scopes) value
    (subst (λ v. Leaves {A = g.row.A.Denot} (local.does own args v) (Ok value) new)
    (sym fits.scopes) c.in_ok-call-in-Local.ensures) in
    search rules

pub returns-in_err-call-in-Local-clause-comes : goal.returns-in_err-call-in-Local-clause-comes
returns-in_err-call-in-Local-clause-comes g c = λ s fits.
    let own = c.in-Local.own in
    let new = c.call.new.scopes in
    let why = c.in_err-call-in-Local.field-0.0 in
    let args = c.args.args.now in
    let state = record c.args.state.now { scopes = new } in
    let fails : Comes (next_of {A = g.row.A.Denot}) (locals (local.does own args s.scopes) s)
    (Err why) state =
    left_fails with_scopes (next_of {A = g.row.A.Denot}) state s new
    (scopes_fit c.args.state.now s fits new) (local.does own args s.scopes) why
    (subst (λ v. Leaves (local.does own args v) (Err why) new)
    (sym fits.scopes) c.in_err-call-in-Local.ensures) in
    search rules

pub returns-in_ok-begin-in-Proc-clause-comes : goal.returns-in_ok-begin-in-Proc-clause-comes
returns-in_ok-begin-in-Proc-clause-comes g c = λ s fits.
    let new = c.begin.new.procs in
    let value = c.in_ok-begin-in-Proc.field-0 in
    let args = c.args.args.now in
    let state = record c.args.state.now { procs = new } in
    let shown : Shows (next_of {A = g.row.A.Denot}) (leaf.Has (Ok value)) state
    (definings (proc args s.procedures) s) =
    left_shows with_procedures next_of state s new (procedures_fit c.args.state.now s fits new)
    (proc args s.procedures) value
    (subst (λ v. Leaves {A = g.row.A.Denot} (proc args v) (Ok value) new)
    (sym fits.procedures) c.in_ok-begin-in-Proc.ensures.leaves) in
    search rules

pub returns-in_err-begin-in-Proc-clause-comes : goal.returns-in_err-begin-in-Proc-clause-comes
returns-in_err-begin-in-Proc-clause-comes g c = λ s fits.
    let new = c.begin.new.procs in
    let why = c.in_err-begin-in-Proc.field-0.0 in
    let args = c.args.args.now in
    let state = record c.args.state.now { procs = new } in
    let fails : Comes (next_of {A = g.row.A.Denot}) (definings (proc args s.procedures) s)
    (Err why) state =
    left_fails with_procedures (next_of {A = g.row.A.Denot}) state s new
    (procedures_fit c.args.state.now s fits new) (proc args s.procedures) why
    (subst (λ v. Leaves (proc args v) (Err why) new)
    (sym fits.procedures) c.in_err-begin-in-Proc.ensures.leaves) in
    search rules

pub returns-in_ok-call-in-Setting-clause-comes : goal.returns-in_ok-call-in-Setting-clause-comes
returns-in_ok-call-in-Setting-clause-comes g c = λ s fits.
    let meant = setting.does c.in-Setting.own c.args.args.now s in
    let value = c.in_ok-call-in-Setting.field-0 in
    let shown : Shows (next_of {A = g.row.A.Denot}) (leaf.Has (Ok value))
    c.call-in-Setting.new.state (talks meant s) =
    sets_shows next_of c.call-in-Setting.new.state meant s value
    (c.in_ok-call-in-Setting.ensures.shows s fits) in
    search rules

pub returns-in_ok-apply-in-Text-clause-comes : goal.returns-in_ok-apply-in-Text-clause-comes
returns-in_ok-apply-in-Text-clause-comes g c = λ s fits.
    let m = says c.in-Text.own c.args.args.now in
    let value = c.in_ok-apply-in-Text.field-0 in
    let shown : Shows (next_of {A = g.row.A.Denot}) (leaf.Has (Ok value)) c.args.state.now
    (meant m s) =
    meant_shows next_of c.args.state.now m s value c.in_ok-apply-in-Text.ensures fits in
    search rules

pub returns-in_err-apply-in-Text-clause-comes : goal.returns-in_err-apply-in-Text-clause-comes
returns-in_err-apply-in-Text-clause-comes g c = λ s fits.
    let m = says c.in-Text.own c.args.args.now in
    let why = c.in_err-apply-in-Text.field-0.0 in
    let fails : Comes (next_of {A = g.row.A.Denot}) (meant m s) (Err why) c.args.state.now =
    meant_fails (next_of {A = g.row.A.Denot}) c.args.state.now m s why c.in_err-apply-in-Text.ensures fits in
    search rules
