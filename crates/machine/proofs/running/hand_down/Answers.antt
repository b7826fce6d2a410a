use Rattle.std.proofs.Common.{◌∙◌, ◌+◌, ◌≤◌, [], ap, subst, sym, arith}
use Rattle.machine.specs.Below.{IsAbove, IsOnward, RunsOn, Under, begins_in, begins_left, left_to_run, parts_of, rest_of, takes_of}
use Rattle.machine.specs.Frames.{stack, words_in}
use Rattle.machine.specs.Phases.{Begins, course_of_next}
use Rattle.state.specs.Budget.{again_of}
use Rattle.state.specs.Prelude.{outcome_of}
use Rattle.steps.proofs.Leads.Silent.{same_goes}
use Rattle.machine.proofs.Below.{end_goes, end_less}
use Rattle.machine.proofs.running.hand_down.Goals as goal

pub returns-in_default-clause-goes_on : goal.returns-in_default-clause-goes_on
returns-in_default-clause-goes_on g c = λ last s fits none below.
    let o = outcome_of c.args.outcome in
    let under = subst (λ it. Under it below.after last) c.in_default.is below.under in
    end_goes (parts_of c.args.running.now) c.end_part.result c.args.outcome c.end_part.new.self
    below.after c.args.state.now (last s o) c.end_part.ensures below.beneath
    (record { status = s; fits = fits; goes = same_goes (ap (λ next. next s o) under) })

pub returns-in_default-clause-less : goal.returns-in_default-clause-less
returns-in_default-clause-less g c = λ same.
    let old = c.args.running.now in
    end_less (parts_of old) c.end_part.result c.args.outcome c.end_part.new.self
    (again_of (outcome_of c.args.outcome) + rest_of old) c.end_part.ensures (omega arith)

pub returns-in-Over-clause-goes_on : goal.returns-in-Over-clause-goes_on
returns-in-Over-clause-goes_on g c = λ last s fits none below.
    let p = last s (outcome_of c.args.outcome) in
    let state = c.go_on.new.state in
    let awaits = subst (λ it. Under it below.after last) c.in-Some.is below.under in
    end_goes (parts_of c.args.running.now) c.end_part-in-Over.result c.in-Over.last
    c.end_part-in-Over.new.self below.after state p c.end_part-in-Over.ensures below.beneath
    (subst (λ l. RunsOn below.after l (stack c.go_on.new.frames) c.go_on.new.run state p)
    c.in-Over.is (c.in_ok-last.ensures.runs below.after last s fits none awaits))

pub returns-in-Over-clause-less : goal.returns-in-Over-clause-less
returns-in-Over-clause-less g c = λ same.
    let old = c.args.running.now in
    let most = again_of (outcome_of c.args.outcome) + begins_left c.in-Some.run' in
    let less = subst (λ l. left_to_run l c.go_on.new.run ≤ most) c.in-Over.is
    (c.in_ok-last.ensures.less same) in
    let code = ap begins_in c.in-Some.is in
    end_less (parts_of old) c.end_part-in-Over.result c.in-Over.last c.end_part-in-Over.new.self
    (again_of (outcome_of c.args.outcome) + rest_of old) c.end_part-in-Over.ensures
    (omega (arith, less, code))

pub returns-in-Has-clause-goes_on : goal.returns-in-Has-clause-goes_on
returns-in-Has-clause-goes_on g c = λ last s fits none below.
    let p = last s (outcome_of c.args.outcome) in
    let awaits = subst (λ it. Under it below.after last) c.in-Some.is below.under in
    let opens = subst (λ l. RunsOn below.after l (stack c.go_on.new.frames) c.go_on.new.run
    c.go_on.new.state p) c.in-Has.is
    (c.in_ok-last.ensures.runs below.after last s fits none awaits) in
    record {
      last = opens.onward;
      below = record { after = below.after; beneath = below.beneath; under = opens.awaits };
      hands = opens.on;
    }

pub returns-in-Has-clause-less : goal.returns-in-Has-clause-less
returns-in-Has-clause-less g c = λ same.
    let most = again_of (outcome_of c.args.outcome) + begins_left c.in-Some.run' in
    let less = subst (λ l. left_to_run l c.go_on.new.run ≤ most) c.in-Has.is
    (c.in_ok-last.ensures.less same) in
    let above = subst (λ l. IsAbove l (stack c.args.running.now.frames) (stack c.go_on.new.frames))
    c.in-Has.is c.in_ok-last.ensures.above in
    let code = ap begins_in c.in-Some.is in
    omega (arith, less, above.0, code)

pub returns-in-Has-clause-falls : goal.returns-in-Has-clause-falls
returns-in-Has-clause-falls g c = λ same.
    let onward = subst (λ l. IsOnward l c.in-Some.run' c.go_on.new.run) c.in-Has.is
    (c.in_ok-last.ensures.onward same) in
    let above = subst (λ l. IsAbove l (stack c.args.running.now.frames) (stack c.go_on.new.frames))
    c.in-Has.is c.in_ok-last.ensures.above in
    let code = ap takes_of c.in-Some.is in
    omega (arith, onward, above.1, code)

pub returns-in-Has-clause-watched : goal.returns-in-Has-clause-watched
returns-in-Has-clause-watched g c =
    g.met.T.Watch.joins _ _ _ [] [] c.go_on.ensures.watched c.stands.ensures

pub returns-in-Begins-clause-goes_on : goal.returns-in-Begins-clause-goes_on
returns-in-Begins-clause-goes_on g c = λ last s fits none below.
    let p = last s (outcome_of c.args.outcome) in
    let awaits = subst (λ it. Under it below.after last) c.in-Some.is below.under in
    let opens = subst (λ l. RunsOn below.after l (stack c.go_on.new.frames) c.go_on.new.run
    c.go_on.new.state p) c.in-Begins.is
    (c.in_ok-last.ensures.runs below.after last s fits none awaits) in
    let above = subst (λ l. IsAbove l (stack c.args.running.now.frames) (stack c.go_on.new.frames))
    c.in-Begins.is c.in_ok-last.ensures.above in
    record {
      last = opens.onward;
      below = record { after = below.after; beneath = below.beneath; under = opens.awaits };
      hands = subst (λ fs. Begins opens.onward (course_of_next c.in-Begins.next) fs
          c.go_on.new.state p) (sym (above ∙ none)) opens.on;
    }

pub returns-in-Begins-clause-less : goal.returns-in-Begins-clause-less
returns-in-Begins-clause-less g c = λ same.
    let most = again_of (outcome_of c.args.outcome) + begins_left c.in-Some.run' in
    let less = subst (λ l. left_to_run l c.go_on.new.run ≤ most) c.in-Begins.is
    (c.in_ok-last.ensures.less same) in
    let above = subst (λ l. IsAbove l (stack c.args.running.now.frames) (stack c.go_on.new.frames))
    c.in-Begins.is c.in_ok-last.ensures.above in
    let code = ap begins_in c.in-Some.is in
    omega (arith, less, ap words_in above, code)
