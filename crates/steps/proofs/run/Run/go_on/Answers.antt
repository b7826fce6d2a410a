use Rattle.std.proofs.Common.{◌≡◌, ◌∙◌, MatchOption, inl, inr, refl, subst, sym, ap, ⊎_elim, arith}
use Rattle.code.specs.Doing.{are_still}
use Rattle.runs.specs.Commands.{command}
use Rattle.state.specs.Budget.{again_of}
use Rattle.state.specs.Prelude.{FitsState, outcome_of}
use Rattle.steps.specs.Goes.{here}
use Rattle.steps.specs.Run.{HasCome, HasStopped, IsDone, IsFresh, IsIdle, IsValue, StaysStill}
use Rattle.steps.specs.View.{IsCall}
use Rattle.steps.specs.declared.progress.Progress.TheVariants as went
use Rattle.steps.specs.declared.run.Run.{Run}
use Rattle.steps.proofs.AtOnce.{begun_stops, comes_after, done_stands, fewer_commands, same_commands}
use Rattle.steps.proofs.First.{again_small, idle_stays, ticked_by}
use Rattle.steps.proofs.Goes.{begins, begun_call}
use Rattle.steps.proofs.Still.{stays_on}
use Rattle.steps.proofs.run.Run.go_on.Goals as goal

pub commands-init : goal.commands-init
commands-init g c = record {
  stands = λ last next s fits awaits. record {
    next = next;
    status = s;
    fits = fits;
    awaits = awaits;
    goes = here;
  };
  left = omega arith;
  fewer = omega arith;
  onward = λ same. omega arith;
  first = λ said fresh value. inr (refl, refl, refl);
  code = refl;
  still = λ is. omega arith;
  again = λ same. omega arith;
}

pub returns-then-ne-clause-stops : goal.returns-then-ne-clause-stops
returns-then-ne-clause-stops g c = λ last next s fits awaits.
    let run = c.reach_command.new.self in
    let progress = c.in_ok-progress.progress in
    let stood = c.commands.invariant.stands last next s fits awaits in
    let state = c.reach_command.new.state in
    let p = next s (outcome_of c.args.outcome) in
    subst (λ stopped. HasStopped last stopped c.stop.new.self state p)
    (sym c.in_ok-stop.ensures.same)
    (c.in_ok-stop.ensures.stops last state p (comes_after last progress run state p
    (stood.next stood.status (outcome_of c.commands.outcome)) stood.goes
    (c.in_ok-progress.ensures.stops last stood.next stood.status stood.fits stood.awaits)))

pub returns-then-ne-clause-falls : goal.returns-then-ne-clause-falls
returns-then-ne-clause-falls g c = λ is.
    let left = c.reach_command.new.state.left in
    let less = c.in_ok-progress.ensures.falls (subst IsCall c.in_ok-stop.ensures.same is) in
    let same = same_commands c.reach_command.new.self c.stop.new.self left c.stop.ensures.code
    c.stop.ensures.place in
    omega (arith, less, same, c.commands.invariant.fewer)

pub returns-in-None-clause-stops : goal.returns-in-None-clause-stops
returns-in-None-clause-stops g c = λ last next s fits awaits.
    let run = c.reach_command.new.self in
    let stood = c.commands.invariant.stands last next s fits awaits in
    let begun : c.in_ok-progress.progress ≡ went.Begins =
    begins c.in_ok-progress.progress (sym c.ne.ensures ∙ c.if-ne.false) in
    let came = comes_after last went.Begins run c.reach_command.new.state
    (next s (outcome_of c.args.outcome))
    (stood.next stood.status (outcome_of c.commands.outcome)) stood.goes
    (subst (λ progress. HasCome last progress run c.reach_command.new.state
    (stood.next stood.status (outcome_of c.commands.outcome))) begun
    (c.in_ok-progress.ensures.stops last stood.next stood.status stood.fits stood.awaits)) in
    begun_stops last went.Begins run c.take_words.new.self c.reach_command.new.state
    c.perform.new.state (next s (outcome_of c.args.outcome)) tt came
    (subst (λ done. MatchOption done (FitsState c.perform.new.state came.status)
    (λ outcome. IsDone (command run.spot.levels came.status c.words_on_top.result.now) outcome
    c.perform.new.state)) c.in-None.is
    (c.in_ok-done.ensures.done run.spot.levels came.status came.fits))
    c.in_ok-take_words-in-None.ensures.words c.in_ok-take_words-in-None.ensures.stands

pub returns-in-None-clause-falls : goal.returns-in-None-clause-falls
returns-in-None-clause-falls g c = λ is.
    let run = c.reach_command.new.self in
    let begun : c.in_ok-progress.progress ≡ went.Begins =
    begins c.in_ok-progress.progress (sym c.ne.ensures ∙ c.if-ne.false) in
    let less = c.in_ok-progress.ensures.falls (begun_call c.in_ok-progress.progress begun) in
    let fewer = fewer_commands run c.take_words.new.self c.reach_command.new.state.left
    c.perform.new.state.left c.perform.ensures.left c.take_words.ensures.place in
    omega (arith, less, fewer, c.commands.invariant.fewer)

pub commands-preserved : goal.commands-preserved
commands-preserved g c =
    let run = c.reach_command.new.self in
    let begun : c.in_ok-progress.progress ≡ went.Begins =
    begins c.in_ok-progress.progress (sym c.ne.ensures ∙ c.if-ne.false) in
    let before = c.commands.invariant in
    let less = c.in_ok-progress.ensures.falls (begun_call c.in_ok-progress.progress begun) in
    let fewer = fewer_commands run c.drop_words.new.self c.reach_command.new.state.left
    c.perform.new.state.left c.perform.ensures.left c.drop_words.ensures.place in
    record {
      stands = λ last next s fits awaits.
          let stood = before.stands last next s fits awaits in
          let came = comes_after last went.Begins run c.reach_command.new.state
          (next s (outcome_of c.args.outcome))
          (stood.next stood.status (outcome_of c.commands.outcome)) stood.goes
          (subst (λ progress. HasCome last progress run c.reach_command.new.state
          (stood.next stood.status (outcome_of c.commands.outcome))) begun
          (c.in_ok-progress.ensures.stops last stood.next stood.status stood.fits stood.awaits)) in
          done_stands last run c.drop_words.new.self c.reach_command.new.state c.perform.new.state
          c.in-Some.done (next s (outcome_of c.args.outcome)) came c.drop_words.ensures.stands
          (subst (λ ws. IsDone (command run.spot.levels came.status ws) c.in-Some.done
          c.perform.new.state) c.words_on_top.ensures
          (subst (λ done. MatchOption done (FitsState c.perform.new.state came.status)
          (λ outcome. IsDone (command run.spot.levels came.status c.words_on_top.result.now) outcome
          c.perform.new.state)) c.in-Some.is
          (c.in_ok-done.ensures.done run.spot.levels came.status came.fits)));
      left = omega (arith, c.in_ok-progress.ensures.left, c.perform.ensures.left, before.left);
      fewer = omega (arith, less, fewer, before.fewer);
      onward = λ same.
          let one : c.reach_command.new.state.left ≡ c.commands.state.left =
          omega (arith, same, c.in_ok-progress.ensures.left, c.perform.ensures.left, before.left) in
          let other : c.commands.state.left ≡ c.args.state.now.left =
          omega (arith, same, c.in_ok-progress.ensures.left, c.perform.ensures.left, before.left) in
          let on = c.in_ok-progress.ensures.onward
          (begun_call c.in_ok-progress.progress begun) one in
          let was = before.onward other in
          omega (arith, on, was, c.drop_words.ensures.place);
      first = λ said fresh value. inl (
          ⊎_elim
          (λ less. omega (arith, less, c.in_ok-progress.ensures.left, c.perform.ensures.left))
          (λ same.
          let took = ticked_by said c.reach_command.new.self.code.value.items c.in_ok-progress.progress run.spot c.reach_command.new.state.left
          c.commands.state.left begun c.in_ok-progress.ensures.left
          (c.in_ok-progress.ensures.first said (subst (IsFresh said) (sym same.0) fresh)
          (subst IsValue (sym same.1) value)) in
          omega (arith, took, same.2, c.perform.ensures.left))
          (before.first said fresh value));
      code = c.reach_command.ensures.code ∙ before.code;
      still = λ is.
          absurd (subst (λ it. StaysStill it run.spot (again_of (outcome_of c.commands.outcome))) begun
          (c.in_ok-progress.ensures.still (ap are_still before.code ∙ is)));
      again = λ same.
          let one : c.reach_command.new.state.left ≡ c.commands.state.left =
          omega (arith, same, c.in_ok-progress.ensures.left, c.perform.ensures.left, before.left) in
          let other : c.commands.state.left ≡ c.args.state.now.left =
          omega (arith, same, c.in_ok-progress.ensures.left, c.perform.ensures.left, before.left) in
          let on = c.in_ok-progress.ensures.onward
          (begun_call c.in_ok-progress.progress begun) one in
          let was = before.again other in
          let small = again_small (outcome_of c.in-Some.done) in
          omega (arith, on, was, small, c.drop_words.ensures.place);
    }

pub commands-smaller : goal.commands-smaller
commands-smaller g c =
    let begun : c.in_ok-progress.progress ≡ went.Begins =
    begins c.in_ok-progress.progress (sym c.ne.ensures ∙ c.if-ne.false) in
    let less = c.in_ok-progress.ensures.falls (begun_call c.in_ok-progress.progress begun) in
    let fewer = fewer_commands c.reach_command.new.self c.drop_words.new.self
    c.reach_command.new.state.left c.perform.new.state.left c.perform.ensures.left
    c.drop_words.ensures.place in
    omega (arith, less, fewer)

pub returns-then-ne-clause-again : goal.returns-then-ne-clause-again
returns-then-ne-clause-again g c = λ over same.
    let before = c.commands.invariant in
    let other : c.commands.state.left ≡ c.args.state.now.left =
    omega (arith, same, c.in_ok-progress.ensures.left, before.left) in
    let was = before.again other in
    let ended = sym c.in_ok-stop.ensures.same ∙ over in
    let counts = c.in_ok-progress.ensures.again ended in
    let stays = ap (λ (run : Run g.row.A.Denot). again_of (outcome_of run.spot.outcome))
    (c.stop.ensures.outcome ended) in
    omega (arith, was, counts, stays)

pub returns-then-ne-clause-first : goal.returns-then-ne-clause-first
returns-then-ne-clause-first g c = λ said fresh value still.
    ⊎_elim (λ less. absurd (omega (arith, less, still, c.in_ok-progress.ensures.left)))
    (λ same.
    let progress = c.in_ok-progress.progress in
    let run = c.reach_command.new.self in
    let stopped = c.stop.new.self in
    let idle = c.in_ok-progress.ensures.first said (subst (IsFresh said) (sym same.0) fresh)
    (subst IsValue (sym same.1) value) (omega (arith, still, same.2)) in
    subst (λ it. IsIdle said stopped.code.value.items it stopped.spot)
    (sym c.in_ok-stop.ensures.same)
    (subst (λ code. IsIdle said code progress stopped.spot) (sym c.stop.ensures.code)
    (idle_stays said run.code.value.items progress run.spot stopped.spot c.stop.ensures.place
    (λ ended. ap (λ (run : Run g.row.A.Denot). run.spot.outcome) (c.stop.ensures.outcome ended))
    idle)))
    (c.commands.invariant.first said fresh value)

pub returns-in-None-clause-first : goal.returns-in-None-clause-first
returns-in-None-clause-first g c = λ said fresh value still.
    let begun : c.in_ok-progress.progress ≡ went.Begins =
    begins c.in_ok-progress.progress (sym c.ne.ensures ∙ c.if-ne.false) in
    ⊎_elim
    (λ less.
    absurd (omega (arith, less, still, c.in_ok-progress.ensures.left, c.perform.ensures.left)))
    (λ same.
    let took = ticked_by said c.reach_command.new.self.code.value.items c.in_ok-progress.progress c.reach_command.new.self.spot
    c.reach_command.new.state.left c.commands.state.left begun c.in_ok-progress.ensures.left
    (c.in_ok-progress.ensures.first said (subst (IsFresh said) (sym same.0) fresh)
    (subst IsValue (sym same.1) value)) in
    absurd (omega (arith, took, same.2, still, c.perform.ensures.left)))
    (c.commands.invariant.first said fresh value)

pub returns-then-ne-clause-still : goal.returns-then-ne-clause-still
returns-then-ne-clause-still g c = λ is.
    let progress = c.in_ok-progress.progress in
    let new = c.stop.new.self.spot in
    let most = again_of (outcome_of c.args.outcome) in
    subst (λ it. StaysStill it new most) (sym c.in_ok-stop.ensures.same)
    (stays_on progress c.reach_command.new.self.spot new (again_of (outcome_of c.commands.outcome))
    most
    (λ ended. ap (λ (run : Run g.row.A.Denot). run.spot.outcome) (c.stop.ensures.outcome ended))
    (c.commands.invariant.still is)
    (c.in_ok-progress.ensures.still (ap are_still c.commands.invariant.code ∙ is)))

pub returns-then-ne-clause-code : goal.returns-then-ne-clause-code
returns-then-ne-clause-code g c =
    c.stop.ensures.code ∙ c.reach_command.ensures.code ∙ c.commands.invariant.code

pub returns-in-None-clause-still : goal.returns-in-None-clause-still
returns-in-None-clause-still g c = λ is.
    let begun : c.in_ok-progress.progress ≡ went.Begins =
    begins c.in_ok-progress.progress (sym c.ne.ensures ∙ c.if-ne.false) in
    absurd (subst (λ it. StaysStill it c.reach_command.new.self.spot
    (again_of (outcome_of c.commands.outcome))) begun
    (c.in_ok-progress.ensures.still (ap are_still c.commands.invariant.code ∙ is)))

pub returns-in-None-clause-code : goal.returns-in-None-clause-code
returns-in-None-clause-code g c = c.reach_command.ensures.code ∙ c.commands.invariant.code
