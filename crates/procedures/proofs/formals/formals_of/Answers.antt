use Rattle.std.proofs.Common.{List, Result, Ok, Err, rules}
use Rattle.acts.specs.Flaw.{Flaw}
use Rattle.kinds.proofs.Readings.{answers_find, bind_finds, bind_finds_none}
use Rattle.kinds.specs.Readings.{Finds, Found, Reading}
use Rattle.procedures.specs.Formals.{formals_of, listed, usable}
use Rattle.tclstate.specs.Formals.{Formal}
use Rattle.procedures.proofs.formals.formals_of.Goals as goal

pub returns-in_err-formals : goal.returns-in_err-formals
returns-in_err-formals g c =
    let text = c.args.text.now in
    let why = c.in_err-formals.field-0.0 in
    let next : List Formal → Reading (Result (List Formal) Flaw) = λ fs. Found (usable text fs) in
    let fails : Finds {Y = List Formal} (λ fs. fs) (formals_of text) (Err why) =
    bind_finds_none {Y = List Formal} {W = List Formal} (λ fs. fs) (λ fs. fs) (listed text) next
    why c.in_err-formals.ensures in
    search rules

pub returns-in_err-usable : goal.returns-in_err-usable
returns-in_err-usable g c =
    let text = c.args.text.now in
    let fs = c.in_ok-formals.formals in
    let why = c.in_err-usable.field-0.0 in
    let next : List Formal → Reading (Result (List Formal) Flaw) = λ fs. Found (usable text fs) in
    let fails : Finds {Y = List Formal} (λ fs. fs) (formals_of text) (Err why) =
    bind_finds (λ fs. fs) (λ fs. fs) (listed text) next fs (Err why) c.in_ok-formals.ensures
    (answers_find (λ fs. fs) (usable text fs) (Err why) c.in_err-usable.ensures) in
    search rules

pub returns : goal.returns
returns g c =
    let text = c.args.text.now in
    let next : List Formal → Reading (Result (List Formal) Flaw) = λ fs. Found (usable text fs) in
    bind_finds {A = g.row.A.Denot} (λ fs. fs) (λ fs. fs) (listed text) next
    c.in_ok-formals.formals (Ok c.in_ok-usable.field-0) c.in_ok-formals.ensures
    c.in_ok-usable.ensures
