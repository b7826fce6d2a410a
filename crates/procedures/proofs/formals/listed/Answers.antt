use Rattle.std.proofs.Common.{ℕ, List, subst}
use Rattle.kinds.proofs.Readings.{bind_finds_none, no_list_finds, raised_finds}
use Rattle.kinds.specs.Readings.{elements}
use Rattle.meanings.proofs.Splits.{is_no_list}
use Rattle.meanings.specs.View.{IsNoList}
use Rattle.procedures.proofs.Listed.{formals_come, no_formals_come}
use Rattle.procedures.specs.Formals.{bad_formals, each_of, listed}
use Rattle.tclstate.specs.Formals.{Formal}
use Rattle.tclstate.specs.FormalsError.{HasFault}
use Rattle.tcltext.specs.Seen as list
use Rattle.procedures.proofs.formals.listed.Goals as goal

pub returns-in-Ok : goal.returns-in-Ok
returns-in-Ok g c = formals_come c.args.text.now c.in-Ok.formals c.in-Ok.ensures.formals

pub returns-in-Err-NotAList : goal.returns-in-Err-NotAList
returns-in-Err-NotAList g c =
    let text = c.args.text.now in
    let why = c.no_list.result in
    let none : IsNoList text why =
    is_no_list text why (list.flaw_of c.in-Err-NotAList.fault) c.no_list.ensures
    (subst (λ e. HasFault e text) c.in-Err-NotAList.field-0-is c.in-Err-NotAList.ensures.fault) in
    bind_finds_none {Y = List (List ℕ)} {W = List Formal} (λ es. es) (λ fs. fs) (elements text)
    (λ es. each_of text es) why (no_list_finds text (λ es. es) why none)

pub returns-in-Err-BadFormal : goal.returns-in-Err-BadFormal
returns-in-Err-BadFormal g c =
    let text = c.args.text.now in
    raised_finds (λ fs. fs) (listed text) (bad_formals text) c.bad_formals.result
    c.bad_formals.ensures
    (no_formals_come text
    (subst (λ e. HasFault e text) c.in-Err-BadFormal.field-0-is c.in-Err-BadFormal.ensures.fault))
