use Rattle.std.proofs.Common.{◌≡◌, ◌∙◌, Some, None, true, false, if◌then◌else◌, sym, ap, subst}
use Rattle.acts.specs.Flaw as flaw
use Rattle.state.specs.Prelude.{text_of, FitsState, Leaves, Error, Status}
use Rattle.nesting.proofs.Calling.{call_refused, call_runs}
use Rattle.nesting.specs.Calls as definition
use Rattle.nesting.proofs.Nestings.{nests_after, nests_from, over}
use Rattle.state.proofs.Inside.{text_reaches}
use Rattle.tclparse.specs.Grammar.{IsScript}
use Rattle.tclstate.specs.Pairs.{found}
use Rattle.tclstate.specs.Scopes.{entered}
use Rattle.nesting.proofs.calls.begin.Goals as goal

pub returns-then-not-bound-clause-called : goal.returns-then-not-bound-clause-called
returns-then-not-bound-clause-called g c = λ s fits.
    let name = c.args.name.now in
    let words = c.args.words.now in
    let procedure = c.in-Some.procedure.now in
    let frame = c.bind_all.new.frame in
    let not_bound : c.in_ok-bound.bound ≡ false = search (c.if-not-bound.true) in
    let none : definition.frame_of procedure.formals words ≡ None =
    ap (λ p. definition.frame_of p.formals words) (sym c.procedure.view_is)
    ∙ c.in_ok-bound.ensures ∙ ap (λ b. if b then Some frame else None) not_bound in
    let state = record c.args.state.now { scopes = c.fresh_frame-frame.new.self } in
    let still : FitsState state s =
    subst (λ scopes. FitsState (record c.args.state.now { scopes = scopes }) s)
    (sym c.fresh_frame-frame.ensures.unchanged) fits in
    record {
      procedure = procedure;
      found = ap (λ procs. found procs name) fits.procedures ∙ sym c.in-Some.ensures;
      nests = over definition.next_of state c.in_ok-wrong_args.field-0
          (Leaves Error (text_of (flaw.WrongArgs name))) s _ still c.in_ok-wrong_args.ensures
          (call_refused c.args.levels name procedure words s none);
    }

pub returns-clause-called : goal.returns-clause-called
returns-clause-called g c = λ s fits.
    let name = c.args.name.now in
    let words = c.args.words.now in
    let levels = c.args.levels in
    let procedure = c.in-Some.procedure.now in
    let frame = c.bind_all.new.frame in
    let body = c.in_ok-body.body in
    let there : Status = record s { scopes = entered frame s.scopes } in
    let bound : c.in_ok-bound.bound ≡ true = search (c.if-not-bound.false) in
    let some : definition.frame_of procedure.formals words ≡ Some frame =
    ap (λ p. definition.frame_of p.formals words) (sym c.procedure.view_is)
    ∙ c.in_ok-bound.ensures ∙ ap (λ b. if b then Some frame else None) bound in
    let text : c.as_slice.result.now ≡ procedure.body =
    c.as_slice.ensures ∙ ap (λ p. p.body) c.procedure.view_is in
    let is : IsScript body.commands body.fault procedure.body =
    subst (λ t. IsScript body.commands body.fault t) text
    c.in_ok-body.ensures.tree in
    let state = record c.args.state.now { scopes = c.fresh_frame-frame.new.self } in
    let still : FitsState state s =
    subst (λ scopes. FitsState (record c.args.state.now { scopes = scopes }) s)
    (sym c.fresh_frame-frame.ensures.unchanged) fits in
    record {
      procedure = procedure;
      found = ap (λ procs. found procs name) fits.procedures ∙ sym c.in-Some.ensures;
      nests = nests_from definition.next_of c.run.new.state c.in_ok-run.field-0 _ _
          (call_runs levels name procedure words s frame some)
          (nests_after definition.next_of c.run.new.state c.in_ok-run.field-0 _ _
          (text_reaches body levels procedure.body there definition.returned is)
          (c.in_ok-run.ensures.nests s still));
    }
