use Rattle.std.proofs.Common.{◌++◌, ◌∷◌, [], ◌∙◌, ap, refl, subst}
use Rattle.live.specs.Calls.{Pipes, Poll, Start}
use Rattle.live.proofs.Refusing.{handed_on, of_memory, start_refused, start_unmade, start_unnamed}
use Rattle.live.proofs.processes.started.Goals as goal

pub returns-clause-started : goal.returns-clause-started
returns-clause-started g c = (
  (
    c.reserve.ensures.deadline,
    c.reserve.ensures.last,
    (
      c.new.result,
      ap g.S.Link.Owned.owner c.new.ensures.link ∙ c.in_ok-link.ensures.owner,
      c.new.ensures.early,
      c.push_reserved-2.ensures.items
          ∙ ap (λ peers. peers ++ c.new.result ∷ []) c.reserve.ensures.items,
    ),
  ),
  (
    c.command_of.new.system,
    c.in_ok-command.ensures.named,
    (
      c.pipes.new.self,
      c.in_ok-link.ensures.step,
      (
        c.watch.new.self,
        subst (λ id. g.S.System.step c.pipes.new.self (Poll id) c.watch.new.self)
            c.in_ok-link.ensures.owner c.in_ok-watch.ensures,
        (c.start.new.self, c.in_ok-program.ensures.step, refl),
      ),
    ),
  ),
)

pub returns-in_err-reserve-clause-stops : goal.returns-in_err-reserve-clause-stops
returns-in_err-reserve-clause-stops g c =
    of_memory c.from_residual.result _ c.from_residual.ensures.1 (λ error why.
    start_unmade g.S.System.step _ c.args.id _ error why)

pub returns-in_err-reserve-2-clause-stops : goal.returns-in_err-reserve-2-clause-stops
returns-in_err-reserve-2-clause-stops g c =
    of_memory c.from_residual-in_err-reserve-2.result _ c.from_residual-in_err-reserve-2.ensures.1
    (λ error why. start_unmade g.S.System.step _ c.args.id _ error why)

pub returns-in_err-command-clause-stops : goal.returns-in_err-command-clause-stops
returns-in_err-command-clause-stops g c =
    handed_on c.from_residual-in_err-command.result c.in_err-command.field-0.0 _ c.from_residual-in_err-command.ensures.1
    (start_unnamed g.S.System.step _ _ c.args.id _ c.in_err-command.field-0.0 c.in_err-command.ensures.stops)

pub returns-in_err-link-clause-stops : goal.returns-in_err-link-clause-stops
returns-in_err-link-clause-stops g c =
    let id = c.args.id in
    handed_on c.from_residual-in_err-link.result c.in_err-link.field-0.0 _ c.from_residual-in_err-link.ensures.1
    (start_refused g.S.System.step _ c.command_of.new.system _ _ id _ c.in_err-link.field-0.0 [] (λ _. Pipes id)
    (λ pid. Poll id ∷ Start id pid ∷ []) (λ _. refl) c.in_ok-command.ensures.named refl
    c.in_err-link.ensures.step)

pub returns-in_err-watch-clause-stops : goal.returns-in_err-watch-clause-stops
returns-in_err-watch-clause-stops g c =
    let id = c.args.id in
    handed_on c.from_residual-in_err-watch.result c.in_err-watch.field-0.0 _ c.from_residual-in_err-watch.ensures.1
    (start_refused g.S.System.step _ c.command_of.new.system _ _ id _ c.in_err-watch.field-0.0 (Pipes id ∷ [])
    (λ _. Poll id) (λ pid. Start id pid ∷ []) (λ _. refl) c.in_ok-command.ensures.named
    (c.pipes.new.self, c.in_ok-link.ensures.step, refl) c.in_err-watch.ensures)

pub returns-in_err-program-clause-stops : goal.returns-in_err-program-clause-stops
returns-in_err-program-clause-stops g c =
    let id = c.args.id in
    handed_on c.from_residual-in_err-program.result c.in_err-program.field-0.0 _ c.from_residual-in_err-program.ensures.1
    (start_refused g.S.System.step _ c.command_of.new.system _ _ id _ c.in_err-program.field-0.0
    (Pipes id ∷ Poll id ∷ []) (λ pid. Start id pid) (λ _. []) (λ _. refl)
    c.in_ok-command.ensures.named (
      c.pipes.new.self,
      c.in_ok-link.ensures.step,
      (
        c.watch.new.self,
        subst (λ of. g.S.System.step c.pipes.new.self (Poll of) c.watch.new.self)
            c.in_ok-link.ensures.owner c.in_ok-watch.ensures,
        refl,
      ),
    ) c.in_err-program.ensures.step)
