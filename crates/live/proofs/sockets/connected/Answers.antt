use Rattle.std.proofs.Common.{◌++◌, ◌∷◌, [], ◌∙◌, ap, refl, subst, inl, inr}
use Rattle.live.proofs.Refusing.{handed_on, of_memory, refused_next, unmade_next}
use Rattle.live.specs.Calls.{Connect, Poll}
use Rattle.live.proofs.sockets.connected.Goals as goal

pub returns-clause-done : goal.returns-clause-done
returns-clause-done g c =
    let step = g.S.System.step in (
      (
        c.reserve.ensures.deadline,
        c.reserve.ensures.last,
        (
          c.new.result,
          ap g.S.Link.Owned.owner c.new.ensures.link ∙ c.in_ok-link.ensures.owner,
          c.new.ensures.early,
          c.push_reserved.ensures.items
              ∙ ap (λ peers. peers ++ c.new.result ∷ []) c.reserve.ensures.items,
        ),
      ),
      (
        c.connect.new.self,
        subst (λ host. step c.args.system.now (Connect c.args.id host c.args.port) c.connect.new.self)
            c.in_ok-text_of.ensures.text c.in_ok-link.ensures.step,
        (
          c.watch.new.self,
          subst (λ id. step c.connect.new.self (Poll id) c.watch.new.self)
              c.in_ok-link.ensures.owner c.in_ok-watch.ensures,
          refl,
        ),
      ),
    )

pub returns-in_err-reserve-clause-stops : goal.returns-in_err-reserve-clause-stops
returns-in_err-reserve-clause-stops g c =
    of_memory c.from_residual.result _ c.from_residual.ensures.1 (λ error why.
    unmade_next g.S.System.step _ _ [] (Connect c.args.id c.args.host.now c.args.port)
    (Poll c.args.id ∷ []) _ error refl refl (inr why))

pub returns-in_err-text_of-clause-stops : goal.returns-in_err-text_of-clause-stops
returns-in_err-text_of-clause-stops g c =
    handed_on c.from_residual-in_err-text_of.result c.in_err-text_of.field-0.0 _ c.from_residual-in_err-text_of.ensures.1
    (unmade_next g.S.System.step _ _ [] (Connect c.args.id c.args.host.now c.args.port)
    (Poll c.args.id ∷ []) _ c.in_err-text_of.field-0.0 refl refl (inl c.in_err-text_of.ensures.refused))

pub returns-in_err-link-clause-stops : goal.returns-in_err-link-clause-stops
returns-in_err-link-clause-stops g c =
    handed_on c.from_residual-in_err-link.result c.in_err-link.field-0.0 _ c.from_residual-in_err-link.ensures.1
    (refused_next g.S.System.step _ _ _ [] (Connect c.args.id c.args.host.now c.args.port)
    (Poll c.args.id ∷ []) _ c.in_err-link.field-0.0 refl refl c.in_err-link.ensures.step)

pub returns-in_err-watch-clause-stops : goal.returns-in_err-watch-clause-stops
returns-in_err-watch-clause-stops g c =
    let step = g.S.System.step in
    handed_on c.from_residual-in_err-watch.result c.in_err-watch.field-0.0 _ c.from_residual-in_err-watch.ensures.1
    (refused_next step _ _ _ (Connect c.args.id c.args.host.now c.args.port ∷ [])
    (Poll c.args.id) [] _ c.in_err-watch.field-0.0 refl (
      c.connect.new.self,
      subst (λ host. step c.args.system.now (Connect c.args.id host c.args.port) c.connect.new.self)
          c.in_ok-text_of.ensures.text c.in_ok-link.ensures.step,
      refl,
    ) c.in_err-watch.ensures)
