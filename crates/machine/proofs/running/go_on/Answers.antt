use Rattle.std.proofs.Common.{◌≡◌, ◌+◌, ◌-◌, ◌≤◌, rules, refl, sym, subst, arith}
use Rattle.machine.specs.Below.{begins_left}
use Rattle.machine.specs.Frames.{stack}
use Rattle.machine.specs.Inner.{PutsScript, PutsValue}
use Rattle.runs.specs.Commands.{command}
use Rattle.expects.specs.Expect.{by_name}
use Rattle.state.specs.Budget.{again_of}
use Rattle.state.specs.Prelude.{outcome_of}
use Rattle.steps.specs.Follows.{run_by, value_by}
use Rattle.steps.specs.Run.{HasStopped, IsIdle, StaysStill}
use Rattle.steps.specs.View.{IsCall, text_in}
use Rattle.machine.specs.declared.starting.Next.TheVariants as next
use Rattle.machine.proofs.Below.{begins_in, never_stops, none_left, over_in, puts_in}
use Rattle.machine.proofs.Entering.{left_called, left_ended, left_onward}
use Rattle.machine.proofs.running.go_on.Goals as goal

pub returns-in-Begins-clause-runs : goal.returns-in-Begins-clause-runs
returns-in-Begins-clause-runs g c = λ last onward s fits empty awaits.
    let run = c.go_on.new.self in
    let state = c.go_on.new.state in
    let p = onward s (outcome_of c.args.outcome) in
    let words = c.replace-words.result in
    let stopped = subst (λ progress. HasStopped last progress run state p) c.in-Begins.is
    (c.in_ok-go_on.ensures.stops last onward s fits awaits) in
    begins_in last (next.Call words run.spot.levels)
    (record run { spot = record run.spot { words = c.replace-words.new.dest } }) state p
    stopped.status (command run.spot.levels stopped.status run.spot.words.items) stopped.fits
    (rw c.replace-words.ensures.value refl) stopped.follows

pub returns-in-Begins-clause-first : goal.returns-in-Begins-clause-first
returns-in-Begins-clause-first g c = λ said fresh value same.
    absurd (subst (λ progress. IsIdle said c.go_on.new.self.code.value.items progress
    c.go_on.new.self.spot) c.in-Begins.is (c.in_ok-go_on.ensures.first said fresh value same))

pub returns-in-Says-clause-runs : goal.returns-in-Says-clause-runs
returns-in-Says-clause-runs g c = λ last onward s fits empty awaits.
    let run = c.go_on.new.self in
    let state = c.go_on.new.state in
    let p = onward s (outcome_of c.args.outcome) in
    let words = c.replace-words-in-Says.result in
    let stopped = subst (λ progress. HasStopped last progress run state p) c.in-Says.is
    (c.in_ok-go_on.ensures.stops last onward s fits awaits) in
    begins_in last (next.Says words run.spot.levels)
    (record run { spot = record run.spot { words = c.replace-words-in-Says.new.dest } }) state p
    stopped.status (by_name run.spot.levels stopped.status run.spot.words.items) stopped.fits
    (rw c.replace-words-in-Says.ensures.value refl) stopped.follows

pub returns-in-Says-clause-first : goal.returns-in-Says-clause-first
returns-in-Says-clause-first g c = λ said fresh value same.
    let code = c.go_on.new.self.code.value.items in
    let idle = subst (λ progress. IsIdle said code progress c.go_on.new.self.spot) c.in-Says.is
    (c.in_ok-go_on.ensures.first said fresh value same) in
    (idle.0, refl, none_left code c.go_on.new.self.spot.place idle.1)

pub returns-in_ok-put_script-in-Runs-clause-runs : goal.returns-in_ok-put_script-in-Runs-clause-runs
returns-in_ok-put_script-in-Runs-clause-runs g c = λ last onward s fits empty awaits.
    let run = c.go_on.new.self in
    let state = c.go_on.new.state in
    let p = onward s (outcome_of c.args.outcome) in
    let below = stack c.args.frames.now in
    let frames = stack c.put_script.new.frames in
    let o = c.in_ok-put_script-in-Runs.field-0 in
    let levels = run.spot.levels - 1 in
    let words : c.as_slice-words.result.now ≡ run.spot.words.items = search rules in
    let stopped = subst (λ progress. HasStopped last progress run state p) c.in-Runs.is
    (c.in_ok-go_on.ensures.stops last onward s fits awaits) in
    let put = subst (λ ws. PutsScript o below frames (text_in ws) levels) words
    c.in_ok-put_script-in-Runs.ensures in
    puts_in last o below frames run state p stopped.status (run_by put.0 levels) stopped.fits empty
    put.2 (stopped.follows put.0 put.1)

pub returns-in_ok-put_script-in-Runs-clause-above : goal.returns-in_ok-put_script-in-Runs-clause-above
returns-in_ok-put_script-in-Runs-clause-above g c =
    let put = c.in_ok-put_script-in-Runs.ensures.2 in (put.words, put.weight)

pub returns-in_ok-put_script-in-Runs-clause-less : goal.returns-in_ok-put_script-in-Runs-clause-less
returns-in_ok-put_script-in-Runs-clause-less g c = λ same.
    let on = c.in_ok-go_on.ensures.onward (subst IsCall (sym c.in-Runs.is) tt) same in
    let less = left_onward c.args.run.now c.go_on.new.self c.in_ok-go_on.ensures.code on in
    omega (arith, less)

pub returns-in_ok-put_script-in-Runs-clause-onward : goal.returns-in_ok-put_script-in-Runs-clause-onward
returns-in_ok-put_script-in-Runs-clause-onward g c = λ same.
    c.in_ok-go_on.ensures.onward (subst IsCall (sym c.in-Runs.is) tt) same

pub returns-in_ok-put_script-in-Runs-clause-first : goal.returns-in_ok-put_script-in-Runs-clause-first
returns-in_ok-put_script-in-Runs-clause-first g c = λ said fresh value same.
    absurd (subst (λ progress. IsIdle said c.go_on.new.self.code.value.items progress
    c.go_on.new.self.spot) c.in-Runs.is (c.in_ok-go_on.ensures.first said fresh value same))

pub returns-in_ok-put_script-in-Runs-clause-watched : goal.returns-in_ok-put_script-in-Runs-clause-watched
returns-in_ok-put_script-in-Runs-clause-watched g c = g.met.T.Watch.stays c.args.watch.now

pub returns-in_ok-put_value-in-Evaluates-clause-runs : goal.returns-in_ok-put_value-in-Evaluates-clause-runs
returns-in_ok-put_value-in-Evaluates-clause-runs g c = λ last onward s fits empty awaits.
    let run = c.go_on.new.self in
    let state = c.go_on.new.state in
    let p = onward s (outcome_of c.args.outcome) in
    let below = stack c.args.frames.now in
    let frames = stack c.put_value.new.frames in
    let o = c.in_ok-put_value-in-Evaluates.field-0 in
    let levels = run.spot.levels in
    let words : c.as_slice-words-in-Evaluates.result.now ≡ run.spot.words.items = search rules in
    let stopped = subst (λ progress. HasStopped last progress run state p) c.in-Evaluates.is
    (c.in_ok-go_on.ensures.stops last onward s fits awaits) in
    let put = subst (λ ws. PutsValue o below frames (text_in ws) levels) words
    c.in_ok-put_value-in-Evaluates.ensures in
    puts_in last o below frames run state p stopped.status (value_by put.0 levels) stopped.fits empty
    put.2 (stopped.follows put.0 put.1)

pub returns-in_ok-put_value-in-Evaluates-clause-above : goal.returns-in_ok-put_value-in-Evaluates-clause-above
returns-in_ok-put_value-in-Evaluates-clause-above g c =
    let put = c.in_ok-put_value-in-Evaluates.ensures.2 in (put.words, put.weight)

pub returns-in_ok-put_value-in-Evaluates-clause-less : goal.returns-in_ok-put_value-in-Evaluates-clause-less
returns-in_ok-put_value-in-Evaluates-clause-less g c = λ same.
    let on = c.in_ok-go_on.ensures.onward (subst IsCall (sym c.in-Evaluates.is) tt) same in
    let less = left_onward c.args.run.now c.go_on.new.self c.in_ok-go_on.ensures.code on in
    omega (arith, less)

pub returns-in_ok-put_value-in-Evaluates-clause-onward : goal.returns-in_ok-put_value-in-Evaluates-clause-onward
returns-in_ok-put_value-in-Evaluates-clause-onward g c = λ same.
    c.in_ok-go_on.ensures.onward (subst IsCall (sym c.in-Evaluates.is) tt) same

pub returns-in_ok-put_value-in-Evaluates-clause-first : goal.returns-in_ok-put_value-in-Evaluates-clause-first
returns-in_ok-put_value-in-Evaluates-clause-first g c = λ said fresh value same.
    absurd (subst (λ progress. IsIdle said c.go_on.new.self.code.value.items progress
    c.go_on.new.self.spot) c.in-Evaluates.is (c.in_ok-go_on.ensures.first said fresh value same))

pub returns-in_ok-put_value-in-Evaluates-clause-watched : goal.returns-in_ok-put_value-in-Evaluates-clause-watched
returns-in_ok-put_value-in-Evaluates-clause-watched g c = g.met.T.Watch.stays c.args.watch.now

pub returns-in-Begins-clause-less : goal.returns-in-Begins-clause-less
returns-in-Begins-clause-less g c = λ same.
    let on = c.in_ok-go_on.ensures.onward (subst IsCall (sym c.in-Begins.is) tt) same in
    let less = left_called c.args.run.now c.go_on.new.self c.in_ok-go_on.ensures.code
    (λ is. subst (λ progress. StaysStill progress c.go_on.new.self.spot
    (again_of (outcome_of c.args.outcome))) c.in-Begins.is (c.in_ok-go_on.ensures.still is)) on in
    omega (arith, less)

pub returns-in-Says-clause-less : goal.returns-in-Says-clause-less
returns-in-Says-clause-less g c = λ same.
    let on = c.in_ok-go_on.ensures.onward (subst IsCall (sym c.in-Says.is) tt) same in
    let less = left_called c.args.run.now c.go_on.new.self c.in_ok-go_on.ensures.code
    (λ is. subst (λ progress. StaysStill progress c.go_on.new.self.spot
    (again_of (outcome_of c.args.outcome))) c.in-Says.is (c.in_ok-go_on.ensures.still is)) on in
    omega (arith, less)

pub returns-in-Over-clause-runs : goal.returns-in-Over-clause-runs
returns-in-Over-clause-runs g c = λ last onward s fits empty awaits.
    let run = c.go_on.new.self in
    let state = c.go_on.new.state in
    let p = onward s (outcome_of c.args.outcome) in
    over_in last run c.replace-outcome.result state p
    (subst (λ progress. HasStopped last progress run state p) c.in-Over.is
    (c.in_ok-go_on.ensures.stops last onward s fits awaits)) c.replace-outcome.ensures.value

pub returns-in-Over-clause-less : goal.returns-in-Over-clause-less
returns-in-Over-clause-less g c = λ same.
    let again = again_of (outcome_of c.go_on.new.self.spot.outcome) in
    let first = again_of (outcome_of c.args.outcome) in
    subst (λ o. again_of (outcome_of o) ≤ first + begins_left c.args.run.now)
    (sym c.replace-outcome.ensures.value)
    (left_ended c.args.run.now again first
    (λ is. subst (λ progress. StaysStill progress c.go_on.new.self.spot first) c.in-Over.is
    (c.in_ok-go_on.ensures.still is))
    (c.in_ok-go_on.ensures.again c.in-Over.is same))

pub returns-in-Over-clause-first : goal.returns-in-Over-clause-first
returns-in-Over-clause-first g c = λ said fresh value same.
    subst (λ o. again_of (outcome_of o) ≡ 0) (sym c.replace-outcome.ensures.value)
    (subst (λ progress. IsIdle said c.go_on.new.self.code.value.items progress
    c.go_on.new.self.spot) c.in-Over.is (c.in_ok-go_on.ensures.first said fresh value same))

pub returns-in_default-clause-runs : goal.returns-in_default-clause-runs
returns-in_default-clause-runs g c = λ last onward s fits empty awaits.
    absurd (never_stops last c.in_ok-go_on.field-0 c.go_on.new.self c.go_on.new.state
    (onward s (outcome_of c.args.outcome)) c.in_default.not-Begins c.in_default.not-Says
    c.in_default.not-Runs c.in_default.not-Evaluates c.in_default.not-Over
    (c.in_ok-go_on.ensures.stops last onward s fits awaits))

pub returns-in-Begins-clause-watched : goal.returns-in-Begins-clause-watched
returns-in-Begins-clause-watched g c = g.met.T.Watch.stays c.args.watch.now
