use Rattle.std.proofs.Common.{ap}
use Rattle.machine.specs.Frames.{stack}
use Rattle.machine.specs.Phases.{course_of_next}
use Rattle.machine.proofs.Machines.{begun_from, leads_from, nothing_leads, on_ok}
use Rattle.machine.proofs.Silent.{same_left}
use Rattle.machine.proofs.starting.begin_next.Goals as goal

pub returns-in-Turn-clause-begins : goal.returns-in-Turn-clause-begins
returns-in-Turn-clause-begins g c = λ last s fits. record {
  status = s;
  fits = fits;
  goes = same_left last (stack c.args.frames.now) (ap (λ n. course_of_next n s) c.in-Turn.is);
}

pub returns-in-Again-clause-begins : goal.returns-in-Again-clause-begins
returns-in-Again-clause-begins g c = λ last s fits.
    let frames = stack c.args.frames.now in
    leads_from last frames c.args.state.now
    (same_left last frames (ap (λ n. course_of_next n s) c.in-Again.is))
    (nothing_leads last frames c.empty.result s c.args.state.now c.empty.ensures fits)

pub returns-in-Call-clause-begins : goal.returns-in-Call-clause-begins
returns-in-Call-clause-begins g c = λ last s fits.
    on_ok c.call.result (λ begun has.
    begun_from last (stack c.call.new.frames) c.call.new.state
    (same_left last (stack c.args.frames.now) (ap (λ n. course_of_next n s) c.in-Call.is))
    begun has)
    (c.call.ensures.begins last s fits)

pub returns-in-Says-clause-begins : goal.returns-in-Says-clause-begins
returns-in-Says-clause-begins g c = λ last s fits.
    begun_from last (stack c.args.frames.now) c.args.state.now
    (same_left last (stack c.args.frames.now) (ap (λ n. course_of_next n s) c.in-Says.is))
    c.give.result
    (c.give.ensures.begins (stack c.args.frames.now) c.args.state.now last s fits)
