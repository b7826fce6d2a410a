use Rattle.std.proofs.Common.{◌∙◌, ◌*◌, ◌≤◌, [], ap, arith, subst, sym, reverse}
use Rattle.machine.specs.Below.{EntersLess, IsAbove, IsOnward, IsOpen, RunsOn, TicksFirst, begins_left, left_to_run}
use Rattle.machine.specs.declared.running.Running.{Running}
use Rattle.machine.specs.Frames.{left_of, onward_of, stack, weight, weight_in, words_in}
use Rattle.machine.specs.Phases.{Begins, course_of_next}
use Rattle.steps.specs.Entered.{entered}
use Rattle.machine.proofs.Below.{open_below, opened}
use Rattle.machine.proofs.Entering.{enters_less, enters_short, open_deep, open_less, some_weight}
use Rattle.machine.proofs.running.enter.Goals as goal

pub returns-in-Over-clause-goes_on : goal.returns-in-Over-clause-goes_on
returns-in-Over-clause-goes_on g c = λ last s fits below.
    let frames = stack c.args.running.now.frames in
    let p = left_of last (entered c.args.it c.args.levels s c.args.value) frames in
    let leads = subst (λ l. RunsOn (onward_of last frames) l (stack c.go_on.new.frames)
    c.go_on.new.run c.go_on.new.state p) c.in-Over.is
    (c.in_ok-outcome.ensures.runs (onward_of last frames) _ s fits
    (ap reverse c.new-frames.ensures.items) (c.in_ok-run.ensures.awaits (onward_of last frames))) in
    record {
      last = last;
      below = below;
      hands = record { status = leads.status; fits = leads.fits; goes = leads.goes };
    }

pub returns-in-Over-clause-less : goal.returns-in-Over-clause-less
returns-in-Over-clause-less g c = λ same.
    let it = c.args.it in
    let old = c.args.running.now in
    let first = c.in_ok-run.run' in
    let run = c.go_on.new.run in
    let most : left_to_run c.in_ok-outcome.field-0 run ≤ begins_left first =
    omega (arith, c.in_ok-outcome.ensures.less same) in
    let enters = subst (λ l. EntersLess it l run) c.in-Over.is
    (enters_less it first run c.in_ok-outcome.field-0 c.in_ok-run.ensures.begun
    (λ said fresh. c.in_ok-outcome.ensures.first said fresh tt same)
    most) in
    omega (arith, enters)

pub returns-in_ok-open-in-Has-clause-goes_on : goal.returns-in_ok-open-in-Has-clause-goes_on
returns-in_ok-open-in-Has-clause-goes_on g c = λ last s fits below.
    let old = c.args.running.now in
    let frames = stack old.frames in
    let p = left_of last (entered c.args.it c.args.levels s c.args.value) frames in
    let opens = subst (λ l. RunsOn (onward_of last frames) l (stack c.go_on.new.frames)
    c.go_on.new.run c.go_on.new.state p) c.in-Has.is
    (c.in_ok-outcome.ensures.runs (onward_of last frames) _ s fits
    (ap reverse c.new-frames.ensures.items) (c.in_ok-run.ensures.awaits (onward_of last frames))) in
    record {
      last = opens.onward;
      below = open_below old c.open.new.self c.go_on.new.run c.go_on.new.frames last opens.onward
          c.in_ok-open-in-Has.ensures below opens.awaits;
      hands = rw c.in_ok-open-in-Has.ensures.1 opens.on;
    }

pub returns-in_ok-open-in-Has-clause-less : goal.returns-in_ok-open-in-Has-clause-less
returns-in_ok-open-in-Has-clause-less g c = λ same.
    let it = c.args.it in
    let old = c.args.running.now in
    let first = c.in_ok-run.run' in
    let run = c.go_on.new.run in
    let most : left_to_run c.in_ok-outcome.field-0 run ≤ begins_left first =
    omega (arith, c.in_ok-outcome.ensures.less same) in
    let enters = subst (λ l. EntersLess it l run) c.in-Has.is
    (enters_less it first run c.in_ok-outcome.field-0 c.in_ok-run.ensures.begun
    (λ said fresh. c.in_ok-outcome.ensures.first said fresh tt same)
    most) in
    let above = subst (λ l. IsAbove l (stack c.new-frames.result) (stack c.go_on.new.frames))
    c.in-Has.is c.in_ok-outcome.ensures.above in
    let none = ap words_in (ap reverse c.new-frames.ensures.items) in
    let rest = open_less old c.open.new.self run c.go_on.new.frames c.in_ok-open-in-Has.ensures in
    omega (arith, enters, above.0, none, rest)

pub returns-in_ok-open-in-Has-clause-falls : goal.returns-in_ok-open-in-Has-clause-falls
returns-in_ok-open-in-Has-clause-falls g c = λ same.
    let it = c.args.it in
    let old = c.args.running.now in
    let first = c.in_ok-run.run' in
    let run = c.go_on.new.run in
    let above = subst (λ l. IsAbove l (stack c.new-frames.result) (stack c.go_on.new.frames))
    c.in-Has.is c.in_ok-outcome.ensures.above in
    let none = ap weight (ap reverse c.new-frames.ensures.items) in
    let onward = subst (λ l. IsOnward l first run) c.in-Has.is (c.in_ok-outcome.ensures.onward same) in
    let short = enters_short it first run c.in-Has.outcome c.in_ok-run.ensures.begun
    (λ said fresh. subst (λ l. TicksFirst said l run) c.in-Has.is
    (c.in_ok-outcome.ensures.first said fresh tt same)) onward in
    open_deep old c.open.new.self run c.go_on.new.frames (2 * weight_in it)
    c.in_ok-open-in-Has.ensures (omega (arith, above.1, none)) short

pub returns-in_ok-open-in-Has-clause-watched : goal.returns-in_ok-open-in-Has-clause-watched
returns-in_ok-open-in-Has-clause-watched g c =
    g.met.T.Watch.joins _ _ _ [] [] c.go_on.ensures.watched c.stands.ensures

pub returns-in_ok-push-in-Begins-clause-goes_on : goal.returns-in_ok-push-in-Begins-clause-goes_on
returns-in_ok-push-in-Begins-clause-goes_on g c = λ last s fits below.
    let old = c.args.running.now in
    let new : Running g.row.A.Denot =
    record {
      frames = c.replace-frames.new.dest;
      code = c.replace-code.new.dest;
      parts = c.push.new.self;
      parsed = c.go_on.new.parsed;
    } in
    let run = c.go_on.new.run in
    let frames = stack old.frames in
    let above = stack c.go_on.new.frames in
    let p = left_of last (entered c.args.it c.args.levels s c.args.value) frames in
    let opens = subst (λ l. RunsOn (onward_of last frames) l above run c.go_on.new.state p)
    c.in-Begins.is
    (c.in_ok-outcome.ensures.runs (onward_of last frames) _ s fits
    (ap reverse c.new-frames.ensures.items) (c.in_ok-run.ensures.awaits (onward_of last frames))) in
    let none = subst (λ l. IsAbove l (stack c.new-frames.result) above) c.in-Begins.is
    c.in_ok-outcome.ensures.above ∙ ap reverse c.new-frames.ensures.items in
    let is : IsOpen old run c.go_on.new.frames new =
    opened old new run c.go_on.new.frames c.replace-frames.result c.replace-code.result
    c.replace-frames.ensures.value c.replace-code.ensures.value
    c.in_ok-push-in-Begins.ensures.items c.replace-frames.ensures.after
    c.replace-code.ensures.after in
    record {
      last = opens.onward;
      below = open_below old new run c.go_on.new.frames last opens.onward is below opens.awaits;
      hands = subst (λ fs. Begins opens.onward (course_of_next c.in-Begins.next) fs
          c.go_on.new.state p) (sym (ap stack is.1 ∙ none)) opens.on;
    }

pub returns-in_ok-push-in-Begins-clause-less : goal.returns-in_ok-push-in-Begins-clause-less
returns-in_ok-push-in-Begins-clause-less g c = λ same.
    let it = c.args.it in
    let old = c.args.running.now in
    let first = c.in_ok-run.run' in
    let run = c.go_on.new.run in
    let most : left_to_run c.in_ok-outcome.field-0 run ≤ begins_left first =
    omega (arith, c.in_ok-outcome.ensures.less same) in
    let enters = subst (λ l. EntersLess it l run) c.in-Begins.is
    (enters_less it first run c.in_ok-outcome.field-0 c.in_ok-run.ensures.begun
    (λ said fresh. c.in_ok-outcome.ensures.first said fresh tt same)
    most) in
    let new : Running g.row.A.Denot =
    record {
      frames = c.replace-frames.new.dest;
      code = c.replace-code.new.dest;
      parts = c.push.new.self;
      parsed = c.go_on.new.parsed;
    } in
    let frames = c.go_on.new.frames in
    let is : IsOpen old run frames new =
    opened old new run frames c.replace-frames.result c.replace-code.result
    c.replace-frames.ensures.value c.replace-code.ensures.value
    c.in_ok-push-in-Begins.ensures.items c.replace-frames.ensures.after
    c.replace-code.ensures.after in
    let empty = subst (λ l. IsAbove l (stack c.new-frames.result) (stack frames)) c.in-Begins.is
    c.in_ok-outcome.ensures.above ∙ ap reverse c.new-frames.ensures.items in
    let none = ap words_in empty in
    let rest = open_less old new run frames is in
    omega (arith, enters, none, rest)

pub returns-in-Over-clause-falls : goal.returns-in-Over-clause-falls
returns-in-Over-clause-falls g c = λ same. omega (arith, some_weight c.args.it)
