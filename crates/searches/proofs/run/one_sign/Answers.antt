use Rattle.std.proofs.Common.{◌∙◌, ◌∷◌, List, ℕ, ap, refl, subst, sym}
use Rattle.std.specs.Prelude.{IfSome}
use Rattle.searches.specs.Runs.{IsSign}
use Rattle.searches.proofs.Scans.{bare_sign, set_sign}
use Rattle.searches.proofs.run.one_sign.Goals as goal

pub returns-then-is_bare : goal.returns-then-is_bare
returns-then-is_bare c =
    bare_sign c.args.text.now c.in_ok-first.rest.now c.in_ok-first.first.now
    c.in_ok-first.ensures.cases.0 (sym c.is_bare.ensures ∙ c.if-is_bare.true)

pub returns-in-92 : goal.returns-in-92
returns-in-92 c =
    let rest = c.in_ok-first.rest.now in
    subst (λ (t : List ℕ). IfSome c.quoted_sign.result (IsSign t))
    (sym (c.in_ok-first.ensures.cases.0 ∙ ap (λ (b : ℕ). b ∷ rest) c.in-92.is))
    c.quoted_sign.ensures

pub returns-in-Some : goal.returns-in-Some
returns-in-Some c =
    let rest = c.in_ok-first.rest.now in
    set_sign c.args.text.now rest c.in-Some.end _
    (c.in_ok-first.ensures.cases.0 ∙ ap (λ (b : ℕ). b ∷ rest) c.in-91.is) refl
    c.in-Some.ensures.0.high c.in-Some.ensures.0.before c.in-Some.ensures.1
