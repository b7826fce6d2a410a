use Rattle.std.proofs.Common.{◌≡◌, refl, sym, ap}
use Rattle.machine.specs.Frames.{onward_of, stack}
use Rattle.machine.specs.View.{words_of}
use Rattle.runs.specs.Run.{initial}
use Rattle.state.specs.Outcome.{Outcome, Gives}
use Rattle.machine.proofs.Silent.{goes_exact}
use Rattle.machine.proofs.Silent.{same_goes, then_goes}
use Rattle.engine.proofs.session.Session.start.Goals as goal

pub returns : goal.returns
returns g c =
    let args = words_of c.args.args.now in
    let limit = c.args.limits.ticks in
    let running = c.in_ok-begin.field-0 in
    let whole = c.in_ok-begin.ensures in
    let first = initial args limit in
    record {
      allowed = c.args.limits.in_range;
      answers = refl;
      status = first;
      fits = c.in_ok-beginning.ensures;
      last = whole.last;
      below = whole.below;
      plan = onward_of whole.last (stack running.frames) first (Gives c.empty.result);
      is_plan = refl;
      exact = goes_exact
          (then_goes (whole.goes args limit)
          (same_goes (ap (λ v.
          onward_of whole.last (stack running.frames) first (let o : Outcome = Gives v in o))
          (sym c.empty.ensures))));
    }
