use Rattle.std.proofs.Common.{◌≡◌, true, [], ◌∷◌, codes, rules, subst}
use Rattle.std.proofs.lemmas.Slice.Eq.{bytes_eq-Decides}
use Rattle.std.specs.Str.{bytes_eq}
use Rattle.code.specs.Code.{IsDirect, adds_last, appends_last, sets_last}
use Rattle.code.specs.Literals.{IsLiteral}
use Rattle.code.specs.declared.instruction.Instruction.TheVariants as i
use Rattle.code.proofs.direct.direct_on.Goals as goal

pub returns-then-eq : goal.returns-then-eq
returns-then-eq g c =
    let own = c.in-Some.own.now in
    let text = c.in-Some-literal_of.text.now in
    let same : bytes_eq own (codes "set") ≡ true = search rules in
    let kept : text ≡ c.in_ok-from_slice.field-0 = search rules in (
      codes "set",
      text,
      subst (λ t. IsLiteral c.args.command.now t) ((bytes_eq-Decides own (codes "set")).0 same)
          c.in-Some.ensures,
      c.in-Some-literal_of.ensures,
      subst (λ v. IsDirect (i.Set v) (codes "set" ∷ text ∷ [])) kept sets_last,
    )

pub returns-then-eq-2 : goal.returns-then-eq-2
returns-then-eq-2 g c =
    let own = c.in-Some.own.now in
    let text = c.in-Some-literal_of.text.now in
    let same : bytes_eq own (codes "append") ≡ true = search rules in
    let kept : text ≡ c.in_ok-from_slice-2.field-0 = search rules in (
      codes "append",
      text,
      subst (λ t. IsLiteral c.args.command.now t) ((bytes_eq-Decides own (codes "append")).0 same)
          c.in-Some.ensures,
      c.in-Some-literal_of.ensures,
      subst (λ v. IsDirect (i.Append v) (codes "append" ∷ text ∷ [])) kept appends_last,
    )

pub returns-then-eq-3 : goal.returns-then-eq-3
returns-then-eq-3 g c =
    let own = c.in-Some.own.now in
    let text = c.in-Some-literal_of.text.now in
    let same : bytes_eq own (codes "incr") ≡ true = search rules in
    let kept : text ≡ c.in_ok-from_slice-3.field-0 = search rules in (
      codes "incr",
      text,
      subst (λ t. IsLiteral c.args.command.now t) ((bytes_eq-Decides own (codes "incr")).0 same)
          c.in-Some.ensures,
      c.in-Some-literal_of.ensures,
      subst (λ v. IsDirect (i.Add v) (codes "incr" ∷ text ∷ [])) kept adds_last,
    )
