use Rattle.std.proofs.Common.{◌≡◌, Option, Ok, IfSome, subst, sym, rules}
use Rattle.std.proofs.lemmas.List.Elements.{All-get_or}
use Rattle.recent.specs.Recent.{AreRead, IsRead}
use Rattle.recent.specs.declared.Read.{Read}
use Rattle.recent.proofs.Recent.read.Goals as goal

pub returns-then-eq : goal.returns-then-eq
returns-then-eq g c =
    let Reads = g.T.Shared.reads in
    let Holds = λ (p : Option (Read g.row.A.Denot g.row.T.Denot)). IfSome p (IsRead Reads) in
    let lookup = c.in-Some-Some.ensures.lookup in
    let all : AreRead Reads c.deref.result.now =
    subst (λ ps. AreRead Reads ps) (sym c.deref.ensures.value) c.self.invariant in
    let at : Holds c.in-Some-Some.field-0.now =
    subst Holds (sym (lookup.3.1 c.in-Some-Some.field-0.now))
    (All-get_or Holds c.deref.result.now c.place_of-place.result c.in-Some-Some.field-0.now
    lookup.3.0 all) in
    let kept : IsRead Reads c.in-Some-Some.kept = subst Holds c.in-Some-Some.field-0-is at in
    c.share.ensures c.args.text.now
    (subst (λ t. Reads t (Ok c.in-Some-Some.kept.tree)) (search rules) kept)
