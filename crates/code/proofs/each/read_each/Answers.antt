use Rattle.std.proofs.Common.{◌≡◌, ◌∙◌, IfSome, sym, ap, subst}
use Rattle.code.specs.Code.{AreNames, foreach_words}
use Rattle.tclparse.specs.Tree.{no_parts}
use Rattle.tclparse.specs.View.{parts_then}
use Rattle.code.proofs.each.read_each.Goals as goal

pub returns : goal.returns
returns g c =
    let word = c.in-Some.found.variables.now in
    let list = parts_then c.in-Some.found.list.now no_parts in
    let body = c.in-Some.found.body.now in
    let variables = c.in_ok-variables.variables in
    let names = c.in-Some-2.names.items in
    let read : AreNames word names =
    subst (λ r. IfSome r (λ ns. AreNames word ns.items)) c.in-Some-2.is c.in_ok-names.ensures in
    let named : word ≡ variables = sym c.in_ok-variables.ensures in
    let same : body ≡ c.in_ok-body.body = sym c.in_ok-body.ensures in (
      list,
      c.in-Some.ensures ∙ ap (λ v. foreach_words v list body) named
          ∙ ap (λ b. foreach_words variables list b) same,
      subst (λ w. AreNames w names) named read,
    )
