use Rattle.std.proofs.Common.{List, Ok, Err, rules}
use Rattle.kinds.proofs.Left.{once_fails, once_leaves}
use Rattle.kinds.specs.Readings.{Done, Found, Leaves, Reading}
use Rattle.procedures.specs.Formals.{formals_of}
use Rattle.procedures.specs.Proc.{defines, defines_read}
use Rattle.tclstate.specs.Formals.{Formal}
use Rattle.tclstate.specs.Procs.{Procs}
use Rattle.procedures.proofs.proc.define_read.Goals as goal

pub returns-in_err-formals-clause-leaves : goal.returns-in_err-formals-clause-leaves
returns-in_err-formals-clause-leaves g c =
    let procs = c.args.procs.now in
    let text = c.args.formals.now in
    let why = c.in_err-formals.field-0.0 in
    let next : List Formal → Reading (Done Procs) =
    λ fs. Found (defines c.args.name.now fs c.args.body.now procs) in
    let fails : Leaves (defines_read c.args.name.now text c.args.body.now procs) (Err why) procs =
    once_fails {Y = List Formal} (λ fs. fs) procs (formals_of text) next why
    c.in_err-formals.ensures in
    search rules

pub returns-clause-leaves : goal.returns-clause-leaves
returns-clause-leaves g c =
    let procs = c.args.procs.now in
    let next : List Formal → Reading (Done Procs) =
    λ fs. Found (defines c.args.name.now fs c.args.body.now procs) in
    once_leaves {A = g.row.A.Denot} (λ fs. fs) procs (formals_of c.args.formals.now) next
    c.define.new.procs c.in_ok-formals.formals (Ok c.in_ok-define.field-0) c.in_ok-formals.ensures
    c.in_ok-define.ensures.leaves
