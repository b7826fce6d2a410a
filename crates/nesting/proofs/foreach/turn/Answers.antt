use Rattle.std.proofs.Common.{◌≡◌, ◌∙◌, ◌-◌, suc, [], map, Ok, Err, refl, sym, ap, rules, arith}
use Rattle.nesting.proofs.Nestings.{on_ok, over}
use Rattle.nesting.proofs.Turning.{turns_next, turns_over}
use Rattle.nesting.specs.Foreach.{rows, turns}
use Rattle.nesting.specs.Looping.{next_of, pair_of}
use Rattle.state.specs.Turn.{on_turn}
use Rattle.state.proofs.Fits.{left_fits}
use Rattle.state.proofs.Reaches.{same_reaches}
use Rattle.state.proofs.Ticks.{tick_refused, tick_taken}
use Rattle.state.specs.Prelude.{inside, raised, Gives, Stops}
use Rattle.state.specs.Outcome as stop
use Rattle.state.specs.declared.outcome.Leave.TheVariants as leave
use Rattle.state.specs.declared.outcome.Stop.TheVariants as halt
use Rattle.nesting.proofs.foreach.turn.Goals as goal

pub returns-in_default-clause-nests : goal.returns-in_default-clause-nests
returns-in_default-clause-nests g c = λ s fits.
    let held = c.args.held in
    let zero : held.turns ≡ 0 = search (rules, arith) in
    over next_of c.args.state.now (Ok c.empty.result) (Gives []) s _ fits
    (ap (λ v. Gives v) c.empty.ensures)
    (turns_over held.levels held.body held.turns
    (map (λ p. pair_of p) held.pairs.items) s zero)

pub returns-in-Some-2-clause-nests : goal.returns-in-Some-2-clause-nests
returns-in-Some-2-clause-nests g c = λ s fits.
    let held = c.args.held in
    let more : held.turns ≡ suc c.in-Some.turns = search (rules, arith) in
    let set = rw c.in-Some-2.is at (c.in_ok-fault.ensures.assigns s fits) in
    over next_of c.assign_all.new.state c.in_ok-raised.field-0 (raised c.in-Some-2.fault) set.status
    _ set.fits c.in_ok-raised.ensures
    (turns_next held.levels held.body held.turns
    (map (λ p. pair_of p) held.pairs.items) s c.in-Some.turns more
    ∙ set.same _)

pub returns-then-state-eq0-clause-nests : goal.returns-then-state-eq0-clause-nests
returns-then-state-eq0-clause-nests g c = λ s fits.
    let held = c.args.held in
    let more : held.turns ≡ suc c.in-Some.turns = search (rules, arith) in
    let set = rw c.in_default-2.is at (c.in_ok-fault.ensures.assigns s fits) in
    over next_of c.assign_all.new.state (Err (leave.Stopped halt.Limit)) (Stops stop.Limit)
    set.status _ set.fits refl
    (turns_next held.levels held.body held.turns
    (map (λ p. pair_of p) held.pairs.items) s c.in-Some.turns more
    ∙ set.same _ ∙ tick_refused set.status _ (set.fits.left ∙ c.if-state-eq0.true))

pub returns-clause-nests : goal.returns-clause-nests
returns-clause-nests g c = λ s fits.
    let held = c.args.held in
    let levels = held.levels in
    let body = held.body in
    let more : held.turns ≡ suc c.in-Some.turns = search (rules, arith) in
    let set = rw c.in_default-2.is at (c.in_ok-fault.ensures.assigns s fits) in
    let moved = rw c.in_default-2.is at c.in_ok-fault.ensures.behind in
    let left = c.assign_all.new.state.left - 1 in
    let some : set.status.left ≡ suc left = omega (arith, set.fits.left, c.if-state-eq0.false) in
    let after = record set.status { left = left } in
    on_ok c.run_body.result
    (λ nesting same. record {
      status = after;
      fits = left_fits c.assign_all.new.state set.status set.fits left;
      reaches = same_reaches
          (turns_next levels body held.turns (map (λ p. pair_of p) held.pairs.items) s
          c.in-Some.turns more
          ∙ set.same _ ∙ tick_taken set.status left _ some
          ∙ ap (λ ps. inside levels body after
          (on_turn (turns levels body (rows c.in-Some.turns ps))))
          (sym moved)
          ∙ same);
    })
    (c.run_body.ensures after)
