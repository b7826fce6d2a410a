use Rattle.std.proofs.Common.{rules, ◌∙◌, subst, sym}
use Rattle.live.specs.Calls as call
use Rattle.live.specs.Live.{LosesProgram}
use Rattle.live.proofs.Programs.{taken_out, whose_found}
use Rattle.live.proofs.processes.reap.Goals as goal

pub returns-in-Ok-clause-exited : goal.returns-in-Ok-clause-exited
returns-in-Ok-clause-exited g c = λ status is.
    let whose = whose_found g.S.Program.Owned.owner c.args.id c.args.programs.now.items
    c.in-Some.place c.remove-program.result
    (rw c.deref.ensures.value at (sym c.place_of.ensures ∙ c.in-Some.is))
    c.remove-program.ensures.value in (
      c.in-Ok.code,
      subst (λ id. g.S.System.step c.args.system.now (call.Wait id c.in-Ok.code) c.wait.new.self)
          whose c.in-Ok.ensures,
      (search rules),
    )

pub returns-in-Ok-clause-gone : goal.returns-in-Ok-clause-gone
returns-in-Ok-clause-gone g c = λ status is.
    subst (LosesProgram g.S.Program.Owned.owner c.args.id c.args.programs.now.items)
    (sym c.remove-program.ensures.items)
    (taken_out g.S.Program.Owned.owner c.args.id c.args.programs.now.items
    c.in-Some.place c.remove-program.result
    (rw c.deref.ensures.value at (sym c.place_of.ensures ∙ c.in-Some.is))
    c.remove-program.ensures.value)
