use Rattle.std.proofs.Common.{◌≡◌, ◌∙◌, true, [], ◌∷◌, Some, None, length, is_some, arith, rules, sym, ap, subst}
use Rattle.std.proofs.lemmas.List.{nil_from_length}
use Rattle.code.specs.Code.{IsTaker, no_taker, taker}
use Rattle.tclparse.specs.Variable.{named}
use Rattle.code.proofs.Fronts.{one_alone}
use Rattle.code.proofs.catch.variable_of.Goals as goal

pub returns-in-empty : goal.returns-in-empty
returns-in-empty g c =
    let words = c.args.words.now in
    let none : length words ≡ 0 = omega (arith, c.in-empty.len_below) in
    subst (λ ws. IsTaker None ws) (sym (nil_from_length words none)) no_taker

pub returns-in_ok-share-in-len1 : goal.returns-in_ok-share-in-len1
returns-in_ok-share-in-len1 g c =
    let words = c.args.words.now in
    let name = c.in_ok-share-in-len1.field-0 in
    let alone : words ≡ name ∷ [] =
    one_alone words c.name-item.result c.in-len1.len_at_least c.in-len1.len_below c.name-item.is
    ∙ ap (λ v. v ∷ []) (sym c.in_ok-share-in-len1.ensures) in
    let some : is_some (named name) ≡ true = search rules in
    subst (λ ws. IsTaker (Some name) ws) (sym alone) (taker some)
