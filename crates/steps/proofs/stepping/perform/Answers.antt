use Rattle.std.proofs.Common.{◌∙◌, codes, refl, ap}
use Rattle.steps.specs.Switch.{hidden}
use Rattle.steps.specs.View.{spot_of, with_parts}
use Rattle.tclstate.specs.Pairs.{found}
use Rattle.steps.proofs.Does.{does_so, same_does}
use Rattle.steps.proofs.stepping.perform.Goals as goal

pub returns-in-Next-clause-does : goal.returns-in-Next-clause-does
returns-in-Next-clause-does g c = λ s.
    let spot = spot_of c.args.spot.now in
    let t = with_parts c.args.scopes.now c.args.procs.now c.args.left.now s in
    does_so c.args.instruction.now _ spot t c.in-Next.is
    (same_does (c.tick.ensures.does t))

pub returns-in_ok-put_shared-in-Text-clause-does : goal.returns-in_ok-put_shared-in-Text-clause-does
returns-in_ok-put_shared-in-Text-clause-does g c = λ s.
    let spot = spot_of c.args.spot.now in
    let t = with_parts c.args.scopes.now c.args.procs.now c.args.left.now s in
    does_so c.args.instruction.now _ spot t c.in-Text.is
    (same_does (c.in_ok-put_shared-in-Text.ensures.does t))

pub returns-in_ok-read_variable-in-Variable-clause-does : goal.returns-in_ok-read_variable-in-Variable-clause-does
returns-in_ok-read_variable-in-Variable-clause-does g c = λ s.
    let spot = spot_of c.args.spot.now in
    let t = with_parts c.args.scopes.now c.args.procs.now c.args.left.now s in
    does_so c.args.instruction.now _ spot t c.in-Variable.is
    (same_does (c.in_ok-read_variable-in-Variable.ensures.does t refl))

pub returns-in_ok-read_element-in-Element-clause-does :
    goal.returns-in_ok-read_element-in-Element-clause-does
returns-in_ok-read_element-in-Element-clause-does g c = λ s.
    let spot = spot_of c.args.spot.now in
    let t = with_parts c.args.scopes.now c.args.procs.now c.args.left.now s in
    does_so c.args.instruction.now _ spot t c.in-Element.is
    (same_does (c.in_ok-read_element-in-Element.ensures.does t refl))

pub returns-in_ok-join-in-Join-clause-does : goal.returns-in_ok-join-in-Join-clause-does
returns-in_ok-join-in-Join-clause-does g c = λ s.
    let spot = spot_of c.args.spot.now in
    let t = with_parts c.args.scopes.now c.args.procs.now c.args.left.now s in
    does_so c.args.instruction.now _ spot t c.in-Join.is
    (same_does (c.in_ok-join-in-Join.ensures.does t))

pub returns-in_ok-enter-in-Enter-clause-does : goal.returns-in_ok-enter-in-Enter-clause-does
returns-in_ok-enter-in-Enter-clause-does g c = λ s.
    let spot = spot_of c.args.spot.now in
    let t = with_parts c.args.scopes.now c.args.procs.now c.args.left.now s in
    does_so c.args.instruction.now _ spot t c.in-Enter.is
    (same_does (c.in_ok-enter-in-Enter.ensures.does t))

pub returns-in_ok-enter-in-Body-clause-does : goal.returns-in_ok-enter-in-Body-clause-does
returns-in_ok-enter-in-Body-clause-does g c = λ s.
    let spot = spot_of c.args.spot.now in
    let t = with_parts c.args.scopes.now c.args.procs.now c.args.left.now s in
    does_so c.args.instruction.now _ spot t c.in-Body.is
    (same_does (c.in_ok-enter-in-Body.ensures.does t))

pub returns-in-Leave-clause-does : goal.returns-in-Leave-clause-does
returns-in-Leave-clause-does g c = λ s.
    let spot = spot_of c.args.spot.now in
    let t = with_parts c.args.scopes.now c.args.procs.now c.args.left.now s in
    does_so c.args.instruction.now _ spot t c.in-Leave.is
    (same_does (c.leave.ensures.does t))

pub returns-in-Say-clause-does : goal.returns-in-Say-clause-does
returns-in-Say-clause-does g c = λ s.
    let spot = spot_of c.args.spot.now in
    let t = with_parts c.args.scopes.now c.args.procs.now c.args.left.now s in
    does_so c.args.instruction.now _ spot t c.in-Say.is
    (same_does (c.say.ensures.does t))

pub returns-in_ok-count-in-Count-clause-does : goal.returns-in_ok-count-in-Count-clause-does
returns-in_ok-count-in-Count-clause-does g c = λ s.
    let spot = spot_of c.args.spot.now in
    let t = with_parts c.args.scopes.now c.args.procs.now c.args.left.now s in
    does_so c.args.instruction.now _ spot t c.in-Count.is
    (same_does (c.in_ok-count-in-Count.ensures.does t))

pub returns-in_ok-start-in-Command-clause-does : goal.returns-in_ok-start-in-Command-clause-does
returns-in_ok-start-in-Command-clause-does g c = λ s.
    let spot = spot_of c.args.spot.now in
    let t = with_parts c.args.scopes.now c.args.procs.now c.args.left.now s in
    does_so c.args.instruction.now _ spot t c.in-Command.is
    (c.in_ok-start-in-Command.ensures.does t refl)

pub returns-in-Counted-clause-does : goal.returns-in-Counted-clause-does
returns-in-Counted-clause-does g c = λ s.
    let spot = spot_of c.args.spot.now in
    let t = with_parts c.args.scopes.now c.args.procs.now c.args.left.now s in
    does_so c.args.instruction.now _ spot t c.in-Counted.is
    (same_does (c.begin_counted.ensures.does t))

pub returns-in_ok-end_faulty-in-Fault-clause-does :
    goal.returns-in_ok-end_faulty-in-Fault-clause-does
returns-in_ok-end_faulty-in-Fault-clause-does g c = λ s.
    let spot = spot_of c.args.spot.now in
    let t = with_parts c.args.scopes.now c.args.procs.now c.args.left.now s in
    does_so c.args.instruction.now _ spot t c.in-Fault.is
    (same_does (c.in_ok-end_faulty-in-Fault.ensures.does t))

pub returns-in_ok-number-in-Numeral-clause-does : goal.returns-in_ok-number-in-Numeral-clause-does
returns-in_ok-number-in-Numeral-clause-does g c = λ s.
    let spot = spot_of c.args.spot.now in
    let t = with_parts c.args.scopes.now c.args.procs.now c.args.left.now s in
    does_so c.args.instruction.now _ spot t c.in-Numeral.is
    (c.in_ok-number-in-Numeral.ensures.does t)

pub returns-in_ok-prefix-in-Prefix-clause-does : goal.returns-in_ok-prefix-in-Prefix-clause-does
returns-in_ok-prefix-in-Prefix-clause-does g c = λ s.
    let spot = spot_of c.args.spot.now in
    let t = with_parts c.args.scopes.now c.args.procs.now c.args.left.now s in
    does_so c.args.instruction.now _ spot t c.in-Prefix.is
    (c.in_ok-prefix-in-Prefix.ensures.does t)

pub returns-in_ok-join_both-in-Binary-clause-does : goal.returns-in_ok-join_both-in-Binary-clause-does
returns-in_ok-join_both-in-Binary-clause-does g c = λ s.
    let spot = spot_of c.args.spot.now in
    let t = with_parts c.args.scopes.now c.args.procs.now c.args.left.now s in
    does_so c.args.instruction.now _ spot t c.in-Binary.is
    (c.in_ok-join_both-in-Binary.ensures.does t)

pub returns-in_ok-apply-in-Call-clause-does : goal.returns-in_ok-apply-in-Call-clause-does
returns-in_ok-apply-in-Call-clause-does g c = λ s.
    let spot = spot_of c.args.spot.now in
    let t = with_parts c.args.scopes.now c.args.procs.now c.args.left.now s in
    does_so c.args.instruction.now _ spot t c.in-Call.is
    (c.in_ok-apply-in-Call.ensures.does t)

pub returns-in_ok-choose-in-AndAlso-clause-does : goal.returns-in_ok-choose-in-AndAlso-clause-does
returns-in_ok-choose-in-AndAlso-clause-does g c = λ s.
    let spot = spot_of c.args.spot.now in
    let t = with_parts c.args.scopes.now c.args.procs.now c.args.left.now s in
    does_so c.args.instruction.now _ spot t c.in-AndAlso.is
    (same_does (c.in_ok-choose-in-AndAlso.ensures.does t))

pub returns-in_ok-choose-in-OrElse-clause-does : goal.returns-in_ok-choose-in-OrElse-clause-does
returns-in_ok-choose-in-OrElse-clause-does g c = λ s.
    let spot = spot_of c.args.spot.now in
    let t = with_parts c.args.scopes.now c.args.procs.now c.args.left.now s in
    does_so c.args.instruction.now _ spot t c.in-OrElse.is
    (same_does (c.in_ok-choose-in-OrElse.ensures.does t))

pub returns-in_ok-tell-in-Truth-clause-does : goal.returns-in_ok-tell-in-Truth-clause-does
returns-in_ok-tell-in-Truth-clause-does g c = λ s.
    let spot = spot_of c.args.spot.now in
    let t = with_parts c.args.scopes.now c.args.procs.now c.args.left.now s in
    does_so c.args.instruction.now _ spot t c.in-Truth.is
    (c.in_ok-tell-in-Truth.ensures.does t)

pub returns-in_ok-give_result-in-Result-clause-does : goal.returns-in_ok-give_result-in-Result-clause-does
returns-in_ok-give_result-in-Result-clause-does g c = λ s.
    let spot = spot_of c.args.spot.now in
    let t = with_parts c.args.scopes.now c.args.procs.now c.args.left.now s in
    does_so c.args.instruction.now _ spot t c.in-Result.is
    (same_does (c.in_ok-give_result-in-Result.ensures.does t))

pub returns-in_ok-jump_unless-in-Unless-clause-does : goal.returns-in_ok-jump_unless-in-Unless-clause-does
returns-in_ok-jump_unless-in-Unless-clause-does g c = λ s.
    let spot = spot_of c.args.spot.now in
    let t = with_parts c.args.scopes.now c.args.procs.now c.args.left.now s in
    does_so c.args.instruction.now _ spot t c.in-Unless.is
    (same_does (c.in_ok-jump_unless-in-Unless.ensures.does t))

pub returns-in-Jump-clause-does : goal.returns-in-Jump-clause-does
returns-in-Jump-clause-does g c = λ s.
    let spot = spot_of c.args.spot.now in
    let t = with_parts c.args.scopes.now c.args.procs.now c.args.left.now s in
    does_so c.args.instruction.now _ spot t c.in-Jump.is
    (same_does (c.jump.ensures.does t))

pub returns-in-Unhidden-clause-does : goal.returns-in-Unhidden-clause-does
returns-in-Unhidden-clause-does g c = λ s.
    let spot = spot_of c.args.spot.now in
    let t = with_parts c.args.scopes.now c.args.procs.now c.args.left.now s in
    does_so c.args.instruction.now _ spot t c.in-Unhidden.is
    (same_does (c.jump_unhidden.ensures.does t refl))

pub returns-in_ok-turn-in-Turn-clause-does : goal.returns-in_ok-turn-in-Turn-clause-does
returns-in_ok-turn-in-Turn-clause-does g c = λ s.
    let spot = spot_of c.args.spot.now in
    let t = with_parts c.args.scopes.now c.args.procs.now c.args.left.now s in
    does_so c.args.instruction.now _ spot t c.in-Turn.is
    (same_does (c.in_ok-turn-in-Turn.ensures.does t))

pub returns-in_ok-begin_step-in-Step-clause-does : goal.returns-in_ok-begin_step-in-Step-clause-does
returns-in_ok-begin_step-in-Step-clause-does g c = λ s.
    let spot = spot_of c.args.spot.now in
    let t = with_parts c.args.scopes.now c.args.procs.now c.args.left.now s in
    does_so c.args.instruction.now _ spot t c.in-Step.is
    (same_does (c.in_ok-begin_step-in-Step.ensures.does t))

pub returns-in-EndTurn-clause-does : goal.returns-in-EndTurn-clause-does
returns-in-EndTurn-clause-does g c = λ s.
    let spot = spot_of c.args.spot.now in
    let t = with_parts c.args.scopes.now c.args.procs.now c.args.left.now s in
    does_so c.args.instruction.now _ spot t c.in-EndTurn.is
    (same_does (c.end_turn.ensures.does t))

pub returns-in-Discard-clause-does : goal.returns-in-Discard-clause-does
returns-in-Discard-clause-does g c = λ s.
    let spot = spot_of c.args.spot.now in
    let t = with_parts c.args.scopes.now c.args.procs.now c.args.left.now s in
    does_so c.args.instruction.now _ spot t c.in-Discard.is
    (same_does (c.discard.ensures.does t))

pub returns-in_ok-begin_foreach-in-Foreach-clause-does :
    goal.returns-in_ok-begin_foreach-in-Foreach-clause-does
returns-in_ok-begin_foreach-in-Foreach-clause-does g c = λ s.
    let spot = spot_of c.args.spot.now in
    let t = with_parts c.args.scopes.now c.args.procs.now c.args.left.now s in
    does_so c.args.instruction.now _ spot t c.in-Foreach.is
    (same_does (c.in_ok-begin_foreach-in-Foreach.ensures.does t refl))

pub returns-in_ok-deal-in-Deal-clause-does :
    goal.returns-in_ok-deal-in-Deal-clause-does
returns-in_ok-deal-in-Deal-clause-does g c = λ s.
    let spot = spot_of c.args.spot.now in
    let t = with_parts c.args.scopes.now c.args.procs.now c.args.left.now s in
    does_so c.args.instruction.now _ spot t c.in-Deal.is
    (c.in_ok-deal-in-Deal.ensures.does t)

pub returns-in-More-clause-does :
    goal.returns-in-More-clause-does
returns-in-More-clause-does g c = λ s.
    let spot = spot_of c.args.spot.now in
    let t = with_parts c.args.scopes.now c.args.procs.now c.args.left.now s in
    does_so c.args.instruction.now _ spot t c.in-More.is
    (same_does (c.look.ensures.does t))

pub returns-in_ok-assign-in-Assign-clause-does :
    goal.returns-in_ok-assign-in-Assign-clause-does
returns-in_ok-assign-in-Assign-clause-does g c = λ s.
    let spot = spot_of c.args.spot.now in
    let t = with_parts c.args.scopes.now c.args.procs.now c.args.left.now s in
    does_so c.args.instruction.now _ spot t c.in-Assign.is
    (same_does (c.in_ok-assign-in-Assign.ensures.does t))

pub returns-in_ok-begin_turn-in-Begin-clause-does :
    goal.returns-in_ok-begin_turn-in-Begin-clause-does
returns-in_ok-begin_turn-in-Begin-clause-does g c = λ s.
    let spot = spot_of c.args.spot.now in
    let t = with_parts c.args.scopes.now c.args.procs.now c.args.left.now s in
    does_so c.args.instruction.now _ spot t c.in-Begin.is
    (same_does (c.in_ok-begin_turn-in-Begin.ensures.does t))

pub returns-in_ok-finish-in-Done-clause-does :
    goal.returns-in_ok-finish-in-Done-clause-does
returns-in_ok-finish-in-Done-clause-does g c = λ s.
    let spot = spot_of c.args.spot.now in
    let t = with_parts c.args.scopes.now c.args.procs.now c.args.left.now s in
    does_so c.args.instruction.now _ spot t c.in-Done.is
    (same_does (c.in_ok-finish-in-Done.ensures.does t))

pub returns-in_ok-begin_switch-in-Switch-clause-does :
    goal.returns-in_ok-begin_switch-in-Switch-clause-does
returns-in_ok-begin_switch-in-Switch-clause-does g c = λ s.
    let spot = spot_of c.args.spot.now in
    let t = with_parts c.args.scopes.now c.args.procs.now c.args.left.now s in
    does_so c.args.instruction.now _ spot t c.in-Switch.is
    (same_does (c.in_ok-begin_switch-in-Switch.ensures.does t refl
    ∙ ap (λ ws. hidden (found t.procedures (codes "switch")) c.in-Switch.options ws
    c.in-Switch.place spot t) c.deref.ensures.value))

pub returns-in-Equals-clause-does : goal.returns-in-Equals-clause-does
returns-in-Equals-clause-does g c = λ s.
    let spot = spot_of c.args.spot.now in
    let t = with_parts c.args.scopes.now c.args.procs.now c.args.left.now s in
    does_so c.args.instruction.now _ spot t c.in-Equals.is
    (same_does (c.compare.ensures.does t))

pub returns-in-Matches-clause-does : goal.returns-in-Matches-clause-does
returns-in-Matches-clause-does g c = λ s.
    let spot = spot_of c.args.spot.now in
    let t = with_parts c.args.scopes.now c.args.procs.now c.args.left.now s in
    does_so c.args.instruction.now _ spot t c.in-Matches.is (c.match_glob.ensures.does t)

pub returns-in_ok-begin_catch-in-Catch-clause-does :
    goal.returns-in_ok-begin_catch-in-Catch-clause-does
returns-in_ok-begin_catch-in-Catch-clause-does g c = λ s.
    let spot = spot_of c.args.spot.now in
    let t = with_parts c.args.scopes.now c.args.procs.now c.args.left.now s in
    does_so c.args.instruction.now _ spot t c.in-Catch.is
    (same_does (c.in_ok-begin_catch-in-Catch.ensures.does t))

pub returns-in_ok-end_catch-in-EndCatch-clause-does :
    goal.returns-in_ok-end_catch-in-EndCatch-clause-does
returns-in_ok-end_catch-in-EndCatch-clause-does g c = λ s.
    let spot = spot_of c.args.spot.now in
    let t = with_parts c.args.scopes.now c.args.procs.now c.args.left.now s in
    does_so c.args.instruction.now _ spot t c.in-EndCatch.is
    (same_does (c.in_ok-end_catch-in-EndCatch.ensures.does t))

pub returns-in_ok-keep-in-Store-clause-does : goal.returns-in_ok-keep-in-Store-clause-does
returns-in_ok-keep-in-Store-clause-does g c = λ s.
    let spot = spot_of c.args.spot.now in
    let t = with_parts c.args.scopes.now c.args.procs.now c.args.left.now s in
    does_so c.args.instruction.now _ spot t c.in-Store.is
    (same_does (c.in_ok-keep-in-Store.ensures.does t))

pub returns-in-Hole-clause-does : goal.returns-in-Hole-clause-does
returns-in-Hole-clause-does g c = λ s.
    let spot = spot_of c.args.spot.now in
    let t = with_parts c.args.scopes.now c.args.procs.now c.args.left.now s in
    does_so c.args.instruction.now _ spot t c.in-Hole.is
    (same_does refl)

pub returns-in_ok-set-in-Set-clause-does :
    goal.returns-in_ok-set-in-Set-clause-does
returns-in_ok-set-in-Set-clause-does g c = λ s.
    let spot = spot_of c.args.spot.now in
    let t = with_parts c.args.scopes.now c.args.procs.now c.args.left.now s in
    does_so c.args.instruction.now _ spot t c.in-Set.is
    (same_does (c.in_ok-set-in-Set.ensures.does t refl))

pub returns-in_ok-increment-in-Increment-clause-does :
    goal.returns-in_ok-increment-in-Increment-clause-does
returns-in_ok-increment-in-Increment-clause-does g c = λ s.
    let spot = spot_of c.args.spot.now in
    let t = with_parts c.args.scopes.now c.args.procs.now c.args.left.now s in
    does_so c.args.instruction.now _ spot t c.in-Increment.is
    (same_does (c.in_ok-increment-in-Increment.ensures.does t refl))

pub returns-in_ok-leave_by_return-in-Return-clause-does :
    goal.returns-in_ok-leave_by_return-in-Return-clause-does
returns-in_ok-leave_by_return-in-Return-clause-does g c = λ s.
    let spot = spot_of c.args.spot.now in
    let t = with_parts c.args.scopes.now c.args.procs.now c.args.left.now s in
    does_so c.args.instruction.now _ spot t c.in-Return.is
    (same_does (c.in_ok-leave_by_return-in-Return.ensures.does t refl))

pub returns-in_ok-append-in-Append-clause-does :
    goal.returns-in_ok-append-in-Append-clause-does
returns-in_ok-append-in-Append-clause-does g c = λ s.
    let spot = spot_of c.args.spot.now in
    let t = with_parts c.args.scopes.now c.args.procs.now c.args.left.now s in
    does_so c.args.instruction.now _ spot t c.in-Append.is
    (same_does (c.in_ok-append-in-Append.ensures.does t refl))

pub returns-in_ok-add-in-Add-clause-does :
    goal.returns-in_ok-add-in-Add-clause-does
returns-in_ok-add-in-Add-clause-does g c = λ s.
    let spot = spot_of c.args.spot.now in
    let t = with_parts c.args.scopes.now c.args.procs.now c.args.left.now s in
    does_so c.args.instruction.now _ spot t c.in-Add.is
    (same_does (c.in_ok-add-in-Add.ensures.does t refl))

pub returns-in_ok-run_text-in-Run-clause-does : goal.returns-in_ok-run_text-in-Run-clause-does
returns-in_ok-run_text-in-Run-clause-does g c = λ s.
    let spot = spot_of c.args.spot.now in
    let t = with_parts c.args.scopes.now c.args.procs.now c.args.left.now s in
    does_so c.args.instruction.now _ spot t c.in-Run.is
    (same_does (c.in_ok-run_text-in-Run.ensures.does t))

pub returns-in_ok-evaluate_text-in-Evaluate-clause-does :
    goal.returns-in_ok-evaluate_text-in-Evaluate-clause-does
returns-in_ok-evaluate_text-in-Evaluate-clause-does g c = λ s.
    let spot = spot_of c.args.spot.now in
    let t = with_parts c.args.scopes.now c.args.procs.now c.args.left.now s in
    does_so c.args.instruction.now _ spot t c.in-Evaluate.is
    (same_does (c.in_ok-evaluate_text-in-Evaluate.ensures.does t))
