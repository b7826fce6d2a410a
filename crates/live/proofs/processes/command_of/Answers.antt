use Rattle.std.proofs.Common.{◌++◌, ◌∷◌, [], ◌∙◌, ap, subst}
use Rattle.live.specs.Calls.{Arg, Command}
use Rattle.std.specs.Str.{IsUtf8}
use Rattle.live.proofs.Chains.{made_mapped}
use Rattle.live.proofs.Refusing.{arg_refused, arg_unsaid, handed_on, name_refused, name_unsaid}
use Rattle.live.proofs.Starting.{done_more, named_so}
use Rattle.live.proofs.processes.command_of.Goals as goal

pub loop-arg-preserved : goal.loop-arg-preserved
loop-arg-preserved g c =
    let (done, whole, made) = c.loop-arg.invariant in
    let word = c.arg-item.result in (
      done ++ word ∷ [],
      done_more c.in-Some.args.now done c.loop-arg.arg-index word c.loop-arg-test.true c.arg-item.is
          whole,
      made_mapped g.S.System.step _ _ _ (λ w. Arg w.items) done word _
          (ap Arg (c.in_ok-text_of-2.ensures.text ∙ c.deref-in-loop-arg.ensures.value)) made
          c.in_ok-arg.ensures,
    )

pub returns-clause-named : goal.returns-clause-named
returns-clause-named g c =
    let (done, whole, made) = c.loop-arg.invariant in
    named_so g.S.System.step (λ w. w.items) _ c.command.new.self _ _ c.in-Some.args.now done
    c.in-Some.name.now c.loop-arg.arg-index c.in-Some.ensures.cases.0 c.loop-arg-test.false whole
    (subst (λ name. g.S.System.step c.args.system.now (Command name) c.command.new.self)
    (c.in_ok-text_of.ensures.text ∙ c.deref.ensures.value) c.in_ok-command.ensures) made

pub returns-in_err-text_of-clause-stops : goal.returns-in_err-text_of-clause-stops
returns-in_err-text_of-clause-stops g c =
    handed_on c.from_residual.result c.in_err-text_of.field-0.0 _ c.from_residual.ensures.1
    (name_unsaid g.S.System.step (λ w. w.items) _ c.in-Some.args.now c.in-Some.name.now
    c.in-Some.ensures.cases.0 _ c.in_err-text_of.field-0.0 (subst (λ text. ¬ (IsUtf8 text)) c.deref.ensures.value
    c.in_err-text_of.ensures.refused))

pub returns-in_err-command-clause-stops : goal.returns-in_err-command-clause-stops
returns-in_err-command-clause-stops g c =
    handed_on c.from_residual-in_err-command.result c.in_err-command.field-0.0 _ c.from_residual-in_err-command.ensures.1
    (name_refused g.S.System.step (λ w. w.items) _ c.in-Some.args.now c.in-Some.name.now
    c.in-Some.ensures.cases.0 _ _ c.in_err-command.field-0.0 c.in_err-command.ensures)

pub returns-in_err-text_of-2-clause-stops : goal.returns-in_err-text_of-2-clause-stops
returns-in_err-text_of-2-clause-stops g c =
    let (done, whole, made) = c.loop-arg.invariant in
    handed_on c.from_residual-in_err-text_of-2.result c.in_err-text_of-2.field-0.0 _ c.from_residual-in_err-text_of-2.ensures.1
    (arg_unsaid g.S.System.step (λ w. w.items) _ c.in-Some.args.now c.in-Some.name.now
    c.in-Some.ensures.cases.0 done c.loop-arg.arg-index c.arg-item.result c.loop-arg-test.true
    c.arg-item.is whole _ c.command.new.self _ c.in_err-text_of-2.field-0.0
    (subst (λ name. g.S.System.step c.args.system.now (Command name) c.command.new.self)
    (c.in_ok-text_of.ensures.text ∙ c.deref.ensures.value) c.in_ok-command.ensures) made
    (subst (λ text. ¬ (IsUtf8 text)) c.deref-in-loop-arg.ensures.value
    c.in_err-text_of-2.ensures.refused))

pub returns-in_err-arg-clause-stops : goal.returns-in_err-arg-clause-stops
returns-in_err-arg-clause-stops g c =
    let (done, whole, made) = c.loop-arg.invariant in
    handed_on c.from_residual-in_err-arg.result c.in_err-arg.field-0.0 _ c.from_residual-in_err-arg.ensures.1
    (arg_refused g.S.System.step (λ w. w.items) _ c.in-Some.args.now c.in-Some.name.now
    c.in-Some.ensures.cases.0 done c.loop-arg.arg-index c.arg-item.result c.loop-arg-test.true
    c.arg-item.is whole _ c.command.new.self _ _ c.in_err-arg.field-0.0
    (subst (λ name. g.S.System.step c.args.system.now (Command name) c.command.new.self)
    (c.in_ok-text_of.ensures.text ∙ c.deref.ensures.value) c.in_ok-command.ensures) made
    c.in_err-arg.ensures)
