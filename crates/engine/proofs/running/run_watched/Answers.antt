use Rattle.std.proofs.Common.{[], ◌∷◌, sym}
use Rattle.std.proofs.lemmas.Result.{err_from_is_err_and}
use Rattle.acts.specs.Deed.{deed_of, reply_of}
use Rattle.machine.specs.View.{words_of}
use Rattle.engine.proofs.Worlds.{begins_told, fewer_left, goes_on_told, is_over_told, never_told, refused_on_told}
use Rattle.engine.proofs.running.run_watched.Goals as goal

pub returns-in_err-session-clause-began : goal.returns-in_err-session-clause-began
returns-in_err-session-clause-began g c =
    let out = err_from_is_err_and c.from_residual.result c.from_residual.ensures.1 in
    rw out.1 (never_told g.T.Watch.told c.args.script.now (words_of c.args.args.now) c.args.limits.ticks
    c.starts.ensures)

pub returns-in_err-go_on-clause-began : goal.returns-in_err-go_on-clause-began
returns-in_err-go_on-clause-began g c =
    let out = err_from_is_err_and c.from_residual-in_err-go_on.result
    c.from_residual-in_err-go_on.ensures.1 in
    rw out.1 (never_told g.T.Watch.told c.args.script.now (words_of c.args.args.now) c.args.limits.ticks
    (g.met.T.Watch.joins _ _ _ [] [] c.starts.ensures c.go_on.ensures.watched))

pub acts-init : goal.acts-init
acts-init g c = record {
  told = c.in_ok-go_on.ensures.told;
  watching = begins_told g.met.T.Watch.joins c.in_ok-session.session c.go_on.new.self
      c.in_ok-session.ensures
      (c.in_ok-go_on.ensures.at c.args.script.now (words_of c.args.args.now)
      c.args.limits.ticks [] c.in_ok-session.ensures)
      c.starts.ensures c.go_on.ensures.watched;
}

pub acts-preserved : goal.acts-preserved
acts-preserved g c =
    let before = c.acts.invariant.watching in
    record {
      told = c.in_ok-go_on-2.ensures.told;
      watching = goes_on_told g.met.T.Watch.joins c.acts.session c.in-Act.act.now
          c.act-answer.result before c.in-Act.ensures.given c.act-answer.ensures
          (g.met.T.Watch.joins _ _ _
          ((deed_of c.in-Act.act.now, reply_of c.act-answer.result) ∷ []) []
          c.answers.ensures c.go_on-in-acts.ensures.watched)
          c.go_on-in-acts.new.self
          (c.in_ok-go_on-2.ensures.at c.args.script.now (words_of c.args.args.now)
          c.args.limits.ticks before.going.history before.going.at);
    }

pub acts-smaller : goal.acts-smaller
acts-smaller g c =
    let before = c.acts.invariant.watching.going in
    fewer_left c.acts.session c.go_on-in-acts.new.self c.in-Act.act.now c.act-answer.result
    before c.in-Act.ensures.given
    (c.in_ok-go_on-2.ensures.at c.args.script.now (words_of c.args.args.now)
    c.args.limits.ticks before.history before.at)

pub returns-in_err-go_on-2-clause-began : goal.returns-in_err-go_on-2-clause-began
returns-in_err-go_on-2-clause-began g c =
    let out = err_from_is_err_and c.from_residual-in_err-go_on-2.result
    c.from_residual-in_err-go_on-2.ensures.1 in
    rw out.1 (refused_on_told g.met.T.Watch.joins c.acts.session c.in-Act.act.now
    c.act-answer.result c.acts.invariant.watching c.in-Act.ensures.given c.act-answer.ensures
    (g.met.T.Watch.joins _ _ _ ((deed_of c.in-Act.act.now, reply_of c.act-answer.result) ∷ []) []
    c.answers.ensures c.go_on-in-acts.ensures.watched)
    c.acts.invariant.told)

pub returns-clause-ran : goal.returns-clause-ran
returns-clause-ran g c =
    is_over_told g.met.T.Watch.joins c.acts.session c.in-Some.end c.acts.invariant.watching
    c.acts.invariant.told (sym c.in-Some.ensures)
