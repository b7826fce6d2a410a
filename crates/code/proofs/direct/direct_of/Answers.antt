use Rattle.std.proofs.Common.{◌≡◌, true, codes, rules, subst}
use Rattle.std.proofs.lemmas.Slice.Eq.{bytes_eq-Decides}
use Rattle.std.specs.Str.{bytes_eq}
use Rattle.code.specs.Code.{increments_last, returns_last}
use Rattle.code.specs.Literals.{IsLiteral}
use Rattle.code.proofs.direct.direct_of.Goals as goal

pub returns-then-eq : goal.returns-then-eq
returns-then-eq g c =
    let name = c.in_ok-name.name.now in
    let same : bytes_eq name (codes "incr") ≡ true = search rules in (
      codes "incr",
      subst (λ text. IsLiteral c.args.command.now text)
          ((bytes_eq-Decides name (codes "incr")).0 same) c.in_ok-name.ensures,
      increments_last,
    )

pub returns-then-eq-2 : goal.returns-then-eq-2
returns-then-eq-2 g c =
    let name = c.in_ok-name.name.now in
    let same : bytes_eq name (codes "return") ≡ true = search rules in (
      codes "return",
      subst (λ text. IsLiteral c.args.command.now text)
          ((bytes_eq-Decides name (codes "return")).0 same) c.in_ok-name.ensures,
      returns_last,
    )
